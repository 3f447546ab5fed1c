-- The member of a shape that has a name: there is one where names differ, and a binary search among the members in the order of their
-- names finds it.
use Rattle.std.proofs.Common.{◌≡◌, ◌⊎◌, inl, inr, ℕ, zero, suc, ◌<◌, ◌+◌, Bool, true, false, cond, List, [], ◌∷◌, map, length, get_or}
use Rattle.std.proofs.Common.{refl, sym, ap, ◌∙◌, subst, arith}
use Rattle.std.specs.Prelude.{Some, None, slice_index_or}
use Rattle.std.specs.Str.{bytes_eq}
use Rattle.std.specs.List.{Contains, HoldsAt}
use Rattle.std.specs.List.Sorted.{IsPermutation, IsStrictlySortedBy, IsSortedBy, IsNonDecreasingBy, IsPartitionPoint}
use Rattle.std.specs.Ordering.{nat_cmp, ordering_index, ordering_reverse, is_lt, is_eq}
use Rattle.std.specs.declared.cmp.Ordering.{Ordering}
use Rattle.std.specs.declared.cmp.Ordering.TheVariants.{Less, Equal, Greater}
use Rattle.std.specs.Cmp.Lexicographic.{slice_cmp}
use Rattle.std.proofs.lemmas.Cmp.{nat_list_cmp_total}
use Rattle.std.proofs.lemmas.Bool.{cases_lt}
use Rattle.std.proofs.lemmas.List.{get_or-map, length-map}
use Rattle.std.proofs.lemmas.List.Elements.{Contains-append_right}
use Rattle.std.proofs.lemmas.List.Sorted.{searchable_from_sorted, Contains-permutation, IsPermutation-sym}
use Rattle.std.proofs.lemmas.Map.Keys.{Less-from_sorted}
use Rattle.std.proofs.lemmas.Map.Text.{is_eq-slice_cmp}
use Rattle.std.proofs.lemmas.Slice.Eq.{bytes_eq-Decides}
use Rattle.sm_shapes.specs.Names.{NoneIs, AllDiffer}
use Rattle.sm_shapes.specs.TableData.{member_with}

-- the number is one of these
abbrev pub IsAmong : ℕ → List ℕ → Type 0
IsAmong j [] = ⊥
IsAmong j (k ∷ ks) = (j ≡ k) ⊎ IsAmong j ks

pub among_contains : (j : ℕ) (ks : List ℕ) → IsAmong j ks → Contains ks j
among_contains j [] i = absurd i
among_contains j (k ∷ ks) (inl e) = (0, omega arith, sym e)
among_contains j (k ∷ ks) (inr i) = Contains-append_right (k ∷ []) ks j (among_contains j ks i)

among_at : (j : ℕ) (ks : List ℕ) (i : ℕ) → i < length ks → slice_index_or ks i j ≡ j → IsAmong j ks
among_at j [] i h e = absurd (omega (arith, h))
among_at j (k ∷ ks) zero h e = inl (sym e)
among_at j (k ∷ ks) (suc i) h e = inr (among_at j ks i (omega (arith, h)) e)

pub contains_among : (j : ℕ) (ks : List ℕ) → Contains ks j → IsAmong j ks
contains_among j ks h = among_at j ks h.0 h.1 h.2

-- the member of a name, where names differ
none_among : (f : ℕ → List ℕ) (w : List ℕ) (j : ℕ) (ks : List ℕ) → NoneIs w (map f ks) → IsAmong j ks → f j ≡ w → ⊥
none_among f w j [] h i e = i
none_among f w j (k ∷ ks) h (inl same) e = h.0 (ap f (sym same) ∙ e)
none_among f w j (k ∷ ks) h (inr i) e = none_among f w j ks h.1 i e

found_if : (f : ℕ → List ℕ) (k j : ℕ) (ks : List ℕ) (b : Bool) → bytes_eq (f k) (f j) ≡ b → NoneIs (f k) (map f ks)
    → (j ≡ k) ⊎ (IsAmong j ks × (member_with f (f j) ks ≡ Some j)) → cond b (Some k) (member_with f (f j) ks) ≡ Some j
found_if f k j ks true e none (inl same) = ap (λ x. Some x) (sym same)
found_if f k j ks true e none (inr i) = absurd (none_among f (f k) j ks none i.0 (sym ((bytes_eq-Decides (f k) (f j)).0 e)))
found_if f k j ks false e none (inl same) =
    let equal : bytes_eq (f k) (f j) ≡ true = (bytes_eq-Decides (f k) (f j)).1 (ap f (sym same)) in absurd cc
found_if f k j ks false e none (inr i) = i.1

pub found : (f : ℕ → List ℕ) (j : ℕ) (ks : List ℕ) → AllDiffer (map f ks) → IsAmong j ks → member_with f (f j) ks ≡ Some j
found f j [] h i = absurd i
found f j (k ∷ ks) h (inl e) = found_if f k j ks (bytes_eq (f k) (f j)) refl h.0 (inl e)
found f j (k ∷ ks) h (inr i) = found_if f k j ks (bytes_eq (f k) (f j)) refl h.0 (inr (i, found f j ks h.1 i))

-- and none where no member has it
nowhere_if : (f : ℕ → List ℕ) (w : List ℕ) (k : ℕ) (ks : List ℕ) (b : Bool) → bytes_eq (f k) w ≡ b → (f k ≡ w → ⊥)
    → member_with f w ks ≡ None → cond b (Some k) (member_with f w ks) ≡ None
nowhere_if f w k ks true e other more = absurd (other ((bytes_eq-Decides (f k) w).0 e))
nowhere_if f w k ks false e other more = more

nowhere : (f : ℕ → List ℕ) (w : List ℕ) (ks : List ℕ) → ((j : ℕ) → IsAmong j ks → f j ≡ w → ⊥) → member_with f w ks ≡ None
nowhere f w [] h = refl
nowhere f w (k ∷ ks) h = nowhere_if f w k ks (bytes_eq (f k) w) refl (h k (inl refl)) (nowhere f w ks (λ j i. h j (inr i)))

-- the order of names
abbrev order : List ℕ → List ℕ → Ordering
order x y = slice_cmp nat_cmp x y

equal_names : (x y : List ℕ) → order x y ≡ Equal → x ≡ y
equal_names x y h = (bytes_eq-Decides x y).0 (sym (is_eq-slice_cmp x y) ∙ ap is_eq h)

same_names : (x y : List ℕ) → x ≡ y → is_eq (order x y) ≡ true
same_names x y e = is_eq-slice_cmp x y ∙ (bytes_eq-Decides x y).1 e

never_less : (x y : List ℕ) → order x y ≡ Less → x ≡ y → ⊥
never_less x y h e = let both : is_eq (order x y) ≡ false = ap is_eq h in let other = same_names x y e in cc

never_greater : (x y : List ℕ) → order x y ≡ Greater → x ≡ y → ⊥
never_greater x y h e = let both : is_eq (order x y) ≡ false = ap is_eq h in let other = same_names x y e in cc

module _ (f : ℕ → List ℕ) (ordered : List ℕ) (rises : IsStrictlySortedBy (slice_cmp nat_cmp) (map f ordered)) where
  -- each name comes before the next
  next_less : (i : ℕ) (d : ℕ) → i + 1 < length ordered → order (f (get_or ordered i d)) (f (get_or ordered (i + 1) d)) ≡ Less
  next_less i d lt =
      let within : i < length ordered = omega (arith, lt) in
      ap (λ x. order x (f (get_or ordered (i + 1) d))) (sym (get_or-map f ordered i d (f d) within))
      ∙ ap (λ y. order (get_or (map f ordered) i (f d)) y) (sym (get_or-map f ordered (i + 1) d (f d) lt))
      ∙ Less-from_sorted (slice_cmp nat_cmp) (map f ordered) i (i + 1) (f d) rises (omega arith)
      (subst (λ n. i + 1 < n) (sym (length-map ordered f)) lt)

  in_order : IsSortedBy (λ a b. is_lt (slice_cmp nat_cmp (f a) (f b))) ordered
  in_order i d low lt =
      ap is_lt (nat_list_cmp_total.antisymm (f (get_or ordered (i + 1) d)) (f (get_or ordered i d))
      ∙ ap ordering_reverse (next_less i d lt))

  -- so the answers to a name rise, as a binary search asks
  pub searchable : (w : List ℕ) → IsNonDecreasingBy (λ k. ordering_index (slice_cmp nat_cmp (f k) w)) ordered
  searchable w = searchable_from_sorted nat_list_cmp_total f ordered w in_order

  -- where it finds one, that is the member
  pub found_there : (members : List ℕ) (w : List ℕ) (i : ℕ) → IsPermutation ordered members → AllDiffer (map f members) → i < length ordered
      → HoldsAt (λ k. slice_cmp nat_cmp (f k) w ≡ Equal) ordered i → member_with f w members ≡ Some (get_or ordered i 0)
  found_there members w i moved differ lt at =
      let k = get_or ordered i 0 in
      let named : f k ≡ w = equal_names (f k) w (at 0) in
      let here : Contains ordered k = (i, lt, same_at ordered i k lt) in
      let among = contains_among k members (Contains-permutation ordered members k moved here) in
      ap (λ x. member_with f x members) (sym named) ∙ found f k members differ among
    where
      same_at : (xs : List ℕ) (j d : ℕ) → j < length xs → get_or xs j d ≡ get_or xs j 0
      same_at [] j d h = absurd (omega (arith, h))
      same_at (x ∷ xs) zero d h = refl
      same_at (x ∷ xs) (suc j) d h = same_at xs j d (omega (arith, h))

  -- and where it doesn't, no member has the name
  pub found_nowhere : (members : List ℕ) (w : List ℕ) (i : ℕ) → IsPermutation ordered members
      → IsPartitionPoint (λ k. slice_cmp nat_cmp (f k) w ≡ Less) (λ k. slice_cmp nat_cmp (f k) w ≡ Greater) ordered i
      → member_with f w members ≡ None
  found_nowhere members w i moved parted = nowhere f w members (λ j among e.
      let at = Contains-permutation members ordered j (IsPermutation-sym ordered members moved) (among_contains j members among) in
      elim (cases_lt at.0 i) [
        | inl less ↦ never_less (f (get_or ordered at.0 j)) w (parted.0 at.0 j (omega arith) less) (ap f at.2 ∙ e)
        | inr more ↦ never_greater (f (get_or ordered at.0 j)) w (parted.1 at.0 j more at.1) (ap f at.2 ∙ e)
      ])
