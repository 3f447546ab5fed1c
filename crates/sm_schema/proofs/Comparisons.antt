-- Tests of whole numbers, and of bounds: what a schema's bounds say is what a table's bounds ask for.
use Rattle.std.proofs.Common.{◌≡◌, ℕ, ◌-◌, ◌^◌, ◌<◌, ℤ, pos, negsuc, ◌*ℤ◌, ◌≤ℤ◌, Bool, true, false, ◌&&◌, cond, Option}
use Rattle.std.proofs.Common.{Some, None, int_le, int_eq, nat_lt, leb, refl, sym, ap, ◌∙◌, subst, arith}
use Rattle.std.proofs.lemmas.Bool.{and_parts, and_from, ltb-true, leb-true, leb-false, lt-ltb, le-leb}
use Rattle.std.proofs.lemmas.Bool.Decides.{Decides-int_eq}
use Rattle.std.proofs.lemmas.Int.{ints}
use lib.IntN.{*ℤ-one, one}
use Rattle.sm_time.proofs.StampForms.{at_most_int}
use Rattle.sm_tree.specs.Node.{int}
use Rattle.sm_shapes.specs.TableData.{ConstraintData}
use Rattle.sm_shapes.specs.Broken.{is_at_least, is_at_most, is_between}
use Rattle.sm_codec.specs.Convention.{fits_bits}
use Rattle.sm_schema.specs.Decimals.{number_le}
use Rattle.sm_schema.specs.Equal.{same_value}
use Rattle.sm_schema.specs.Described.{narrow_min, narrow_max, least_of, greatest_of}

pub alike : (a b : Bool) → (a ≡ true → b ≡ true) → (b ≡ true → a ≡ true) → a ≡ b
alike true b h g = sym (h refl)
alike false true h g = g refl
alike false false h g = refl

pub and_true : (a : Bool) → (a && true) ≡ a
and_true true = refl
and_true false = refl

pub ints_le : (y z : ℤ) → number_le (int y) (int z) ≡ int_le y z
unfolding one
ints_le y z = ap (λ x. int_le x (z *ℤ pos 1)) (*ℤ-one y) ∙ ap (λ x. int_le y x) (*ℤ-one z)

below_itself : (z : ℤ) → z ≤ℤ z
below_itself z = omega (arith, ints)

both_below : (y z : ℤ) → y ≤ℤ z → z ≤ℤ y → y ≡ z
both_below (pos m) (pos n) h g = ap pos (omega (arith, ints, h, g))
both_below (pos m) (negsuc n) h g = absurd h.le
both_below (negsuc m) (pos n) h g = absurd g.le
both_below (negsuc m) (negsuc n) h g = ap negsuc (omega (arith, ints, h, g))

-- numbers are equal by their value where they are equal
pub ints_same : (y z : ℤ) → same_value (int y) (int z) ≡ int_eq y z
ints_same y z =
    ap (λ b. b && number_le (int z) (int y)) (ints_le y z) ∙ ap (λ b. int_le y z && b) (ints_le z y)
    ∙ alike (int_le y z && int_le z y) (int_eq y z)
    (λ h. let w = and_parts (int_le y z) (int_le z y) h in
    (Decides-int_eq y z).1 (both_below y z ((at_most_int y z).0 w.0) ((at_most_int z y).0 w.1)))
    (λ h. let e = (Decides-int_eq y z).0 h in
    and_from (int_le y z) (int_le z y) (subst (λ x. int_le y x ≡ true) e ((at_most_int y y).1 (below_itself y)))
    (subst (λ x. int_le x y ≡ true) e ((at_most_int y y).1 (below_itself y))))

through : (x y z : ℤ) → int_le x y ≡ true → int_le y z ≡ true → int_le x z ≡ true
through x y z h g =
    let a = (at_most_int x y).0 h in
    let b = (at_most_int y z).0 g in
    (at_most_int x z).1 (omega (arith, ints, a, b))

other_way : (x y : ℤ) → int_le x y ≡ false → int_le y x ≡ true
other_way (pos m) (pos n) h = le-leb n m (omega (arith, leb-false m n h))
other_way (pos m) (negsuc n) h = refl
other_way (negsuc m) (pos n) h = absurd cc
other_way (negsuc m) (negsuc n) h = le-leb m n (omega (arith, leb-false n m h))

narrow_low : (least : ℤ) (o : Option ℤ) (z : ℤ) → int_le (narrow_min least o) z ≡ (int_le least z && is_at_least o z)
narrow_low least None z = sym (and_true (int_le least z))
narrow_low least (Some m) z = by (int_le least m) refl
  where
    by : (b : Bool) → int_le least m ≡ b → int_le (cond b m least) z ≡ (int_le least z && int_le m z)
    by true e = alike (int_le m z) (int_le least z && int_le m z)
        (λ h. and_from (int_le least z) (int_le m z) (through least m z e h) h)
        (λ h. (and_parts (int_le least z) (int_le m z) h).1)
    by false e = alike (int_le least z) (int_le least z && int_le m z)
        (λ h. and_from (int_le least z) (int_le m z) h (through m least z (other_way least m e) h))
        (λ h. (and_parts (int_le least z) (int_le m z) h).0)

narrow_high : (greatest : ℤ) (o : Option ℤ) (z : ℤ) → int_le z (narrow_max greatest o) ≡ (int_le z greatest && is_at_most o z)
narrow_high greatest None z = sym (and_true (int_le z greatest))
narrow_high greatest (Some m) z = by (int_le m greatest) refl
  where
    by : (b : Bool) → int_le m greatest ≡ b → int_le z (cond b m greatest) ≡ (int_le z greatest && int_le z m)
    by true e = alike (int_le z m) (int_le z greatest && int_le z m)
        (λ h. and_from (int_le z greatest) (int_le z m) (through z m greatest h e) h)
        (λ h. (and_parts (int_le z greatest) (int_le z m) h).1)
    by false e = alike (int_le z greatest) (int_le z greatest && int_le z m)
        (λ h. and_from (int_le z greatest) (int_le z m) h (through z greatest m h (other_way m greatest e)))
        (λ h. (and_parts (int_le z greatest) (int_le z m) h).0)

below_top : (top n : ℕ) → 0 < top → nat_lt n top ≡ leb n (top - 1)
below_top top n some = alike (nat_lt n top) (leb n (top - 1))
    (λ h. le-leb n (top - 1) (omega (arith, ltb-true n top h, some)))
    (λ h. lt-ltb n top (omega (arith, leb-true n (top - 1) h, some)))

-- a word of so many bits holds the numbers from its least to its greatest
fits_by : (bits : ℕ) (z : ℤ) → 0 < 2 ^ (bits - 1) → fits_bits bits z ≡ (int_le (least_of bits) z && int_le z (greatest_of bits))
fits_by bits (pos n) some = below_top (2 ^ (bits - 1)) n some
fits_by bits (negsuc n) some =
    below_top (2 ^ (bits - 1)) n some ∙ sym (and_true (leb n (2 ^ (bits - 1) - 1)))

crossed : (a b c d : Bool) → ((a && b) && (c && d)) ≡ ((a && c) && (b && d))
crossed true b true d = refl
crossed true true false d = refl
crossed true false false d = refl
crossed false b c d = refl

-- the narrower bounds hold where the number fits the word and lies in its range
pub narrowed : (bits : ℕ) (c : ConstraintData) (z : ℤ) → 0 < 2 ^ (bits - 1)
    → (int_le (narrow_min (least_of bits) c.min) z && int_le z (narrow_max (greatest_of bits) c.max)) ≡ (fits_bits bits z && is_between c z)
narrowed bits c z some =
    ap (λ b. b && int_le z (narrow_max (greatest_of bits) c.max)) (narrow_low (least_of bits) c.min z)
    ∙ ap (λ b. (int_le (least_of bits) z && is_at_least c.min z) && b) (narrow_high (greatest_of bits) c.max z)
    ∙ crossed (int_le (least_of bits) z) (is_at_least c.min z) (int_le z (greatest_of bits)) (is_at_most c.max z)
    ∙ ap (λ b. b && is_between c z) (sym (fits_by bits z some))
