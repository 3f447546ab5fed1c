-- From the mask of a vector's lanes to bytes that need no escape.
use Rattle.std.proofs.Common.{◌≡◌, ℕ, zero, suc, ◌+◌, ◌-◌, ◌%◌, ◌^◌, ◌≤◌, ltb, eqb, Bool, true, false, cond, ◌==◌, List, [], ◌∷◌, ◌++◌}
use Rattle.std.proofs.Common.{length, drop, get_or, map, replicate, bit_or, Fits, w8, refl, sym, ap, ap₂, ◌∙◌, arith, get_or-take}
use Rattle.std.proofs.Common.{get_or-drop}
use Rattle.std.proofs.lemmas.Bool.{agree_below, agree_below_at, not-true, eqb-true}
use Rattle.std.proofs.lemmas.Simd.{length-chunk, leading_from_mask_l, chunk-fits, zip2_splat, zip2_of_maps, mask_l-mod}
use Rattle.std.proofs.lemmas.List.{length-map}
use Rattle.std.proofs.lemmas.List.Sums.{prefix_len-le-length}
use Rattle.std.specs.Bool.{OnTrue}
use Rattle.std.specs.List.{prefix_len}
use lib.Lanes.{chunk, mask_l, zip2, top, Each1}
use Rattle.sm_json.specs.steps.Placing.{is_escaped, is_unescaped, IsPlainBetween}
use Rattle.sm_json.specs.Written.{written_bytes}
use Rattle.sm_json.proofs.PlainRuns.{unescaped_byte}

-- what a comparison of two lanes leaves in the mask's lane
abbrev pub equal_lane : ℕ → ℕ → ℕ
equal_lane a b = cond (eqb a b) 255 0

abbrev below_lane : ℕ → ℕ → ℕ
below_lane a b = cond (ltb a b) 255 0

abbrev escape_lane : ℕ → ℕ
escape_lane x = bit_or (below_lane x 32) (bit_or (equal_lane x 34) (equal_lane x 92))

-- two vectors that were computed lane by lane from v, joined by `|`
pub either_lane : (f g : ℕ → ℕ) (v : List ℕ) {a b : List ℕ} → a ≡ map f v → b ≡ map g v → zip2 bit_or a b ≡ map (λ x. bit_or (f x) (g x)) v
either_lane f g v p q = zip2_of_maps bit_or f g v p q

each_lane : (lane : ℕ → ℕ) (p : ℕ → Bool) → agree_below (λ x. top 7 (lane x)) p 256 ≡ true → (v : List ℕ) → Each1 (Fits w8) v
    → map (top 7) (map lane v) ≡ map p v
each_lane lane p all [] fits = refl
each_lane lane p all (x ∷ xs) fits = ap₂ (λ (a : Bool) (b : List Bool). a ∷ b)
    (agree_below_at (λ y. top 7 (lane y)) p 256 x all fits.0.fits) (each_lane lane p all xs fits.1)

-- the mask has the bits of the bytes that pass the test
pub lanes_mask : (lane : ℕ → ℕ) (p : ℕ → Bool) → agree_below (λ x. top 7 (lane x)) p 256 ≡ true → (v z : List ℕ) → length v ≤ 64
    → Each1 (Fits w8) v → z ≡ map lane v → mask_l (map (top 7) z) % 2 ^ 64 ≡ mask_l (map p v)
lanes_mask lane p all v z short fits e =
    ap (λ l. mask_l l % 2 ^ 64) (ap (map (top 7)) e ∙ each_lane lane p all v fits)
    ∙ mask_l-mod (map p v) 64 (omega (arith, length-map v p))

all_of_run : (p : Bool) (n l : ℕ) → n ≤ l → cond p (1 + n) 0 ≡ suc l → (p ≡ true) × (n ≡ l)
all_of_run true n l h e = (refl, omega arith)
all_of_run false n l h e = absurd (omega arith)

whole_run : (xs : List ℕ) → prefix_len is_unescaped xs ≡ length xs → IsPlainBetween xs 0 (length xs)
whole_run [] e k p q = absurd (omega arith)
whole_run (x ∷ xs) e zero p q =
    not-true (is_escaped x) (all_of_run (is_unescaped x) _ (length xs) (prefix_len-le-length is_unescaped xs) e).0
whole_run (x ∷ xs) e (suc k) p q =
    whole_run xs (all_of_run (is_unescaped x) _ (length xs) (prefix_len-le-length is_unescaped xs) e).1 k (omega arith) (omega arith)

plain_from_mask : (bs : List ℕ) (i n : ℕ) → i + n ≤ length bs → mask_l (map is_escaped (chunk i n bs)) ≡ 0 → IsPlainBetween bs i (i + n)
plain_from_mask bs i n room none k p q =
    let long = length-chunk i n bs room in
    let back : i + (k - i) ≡ k = omega arith in
    ap is_escaped (sym (get_or-take n (drop i bs) (k - i) 0 (omega arith) ∙ get_or-drop i bs (k - i) 0 ∙ ap (λ j. get_or bs j 0) back))
    ∙ whole_run (chunk i n bs) (leading_from_mask_l is_escaped (chunk i n bs) none) (k - i) (omega arith) (omega arith)

on_true : (b : Bool) (P : Type 0) → (b ≡ true → P) → OnTrue b P
on_true true P f = f refl
on_true false P f = tt

-- the three tests of a vector of n lanes
pub plain_from_lanes : (bs : List ℕ) (i n : ℕ) → i + n ≤ length bs → n ≤ 64 → ((k : ℕ) → Fits w8 (get_or bs k 0))
    → OnTrue (mask_l (map (top 7) (zip2 bit_or (zip2 below_lane (chunk i n bs) (replicate n 32))
    (zip2 bit_or (zip2 equal_lane (chunk i n bs) (replicate n 34)) (zip2 equal_lane (chunk i n bs) (replicate n 92))))) % 2 ^ 64 == 0)
    (IsPlainBetween bs i (i + n))
plain_from_lanes bs i n room few fits =
    let v = chunk i n bs in
    let long = length-chunk i n bs room in
    let mask = lanes_mask escape_lane is_escaped refl v _ (omega arith) (chunk-fits w8 i n bs fits)
    (either_lane _ _ v (zip2_splat below_lane v n 32 long)
    (either_lane _ _ v (zip2_splat equal_lane v n 34 long) (zip2_splat equal_lane v n 92 long))) in
    on_true _ _ (λ e. plain_from_mask bs i n room (sym mask ∙ eqb-true _ 0 e))

written_plain : (bs : List ℕ) → IsPlainBetween bs 0 (length bs) → written_bytes bs ≡ bs
written_plain [] h = refl
written_plain (b ∷ bs) h =
    ap₂ (λ (x y : List ℕ). x ++ y) (unescaped_byte b (h 0 (omega arith) (omega arith)))
    (written_plain bs (λ k p q. h (suc k) (omega arith) (omega arith)))

pub written_on_plain : (b : Bool) (bs : List ℕ) → OnTrue b (IsPlainBetween bs 0 (length bs)) → OnTrue b (written_bytes bs ≡ bs)
written_on_plain true bs h = written_plain bs h
written_on_plain false bs h = tt
