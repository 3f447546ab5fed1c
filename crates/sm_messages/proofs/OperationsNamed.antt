-- What a binary search by names finds in a list in their order.
use Rattle.std.proofs.Common.{◌≡◌, inl, inr, ℕ, ◌<◌, ◌+◌, true, false, List, [], ◌∷◌, ◌++◌, map, length, get_or, Some, refl, sym, ap, ◌∙◌, subst, arith}
use Rattle.std.specs.Prelude.{slice_get}
use Rattle.std.specs.Option.{option_map}
use Rattle.std.specs.List.{Contains, HoldsAt}
use Rattle.std.specs.List.Sorted.{IsNonDecreasingBy, IsPartitionPoint, IsSortedBy, IsStrictlySortedBy}
use Rattle.std.specs.Ordering.{is_eq, is_lt, nat_cmp, ordering_index, ordering_reverse}
use Rattle.std.specs.declared.cmp.Ordering.{Ordering}
use Rattle.std.specs.declared.cmp.Ordering.TheVariants.{Less, Equal, Greater}
use Rattle.std.specs.Cmp.Lexicographic.{slice_cmp}
use Rattle.std.proofs.lemmas.Bool.{cases_lt}
use Rattle.std.proofs.lemmas.Cmp.{nat_list_cmp_total}
use Rattle.std.proofs.lemmas.List.{get_or-map, length-map}
use Rattle.std.proofs.lemmas.List.Sorted.{searchable_from_sorted}
use Rattle.std.proofs.lemmas.Map.Keys.{Less-from_sorted}
use Rattle.std.proofs.lemmas.Map.Text.{is_eq-slice_cmp}
use Rattle.std.proofs.lemmas.Option.{get_or_from_slice_get, slice_get-get_or, slice_get-map, slice_get_read}
use Rattle.std.proofs.lemmas.Slice.Eq.{bytes_eq-Decides}
use Rattle.std.proofs.lemmas.Simd.{map-map}
use Rattle.sm_model.specs.Graphs.{text_cmp}
use Rattle.sm_service.specs.ServiceData.{OperationData}
use Rattle.sm_service.specs.ServiceView.{operation_data}
use Rattle.sm_service.specs.declared.operation.Operation.{Operation}
use Rattle.sm_messages.specs.Goals.{no_operation}

equal_texts : (x y : List ℕ) → text_cmp x y ≡ Equal → x ≡ y
equal_texts x y h = (bytes_eq-Decides x y).0 (sym (is_eq-slice_cmp x y) ∙ ap is_eq h)

ties : (x y : List ℕ) → x ≡ y → (r : Ordering) → text_cmp x y ≡ r → is_eq r ≡ false → ⊥
ties x y e r h apart =
    let tied = is_eq-slice_cmp x y ∙ (bytes_eq-Decides x y).1 e in
    let bad : true ≡ false = sym tied ∙ ap is_eq h ∙ apart in
    cc

module _ {X : Type 0} (f : X → List ℕ) where
  in_order : (xs : List X) → IsStrictlySortedBy text_cmp (map f xs) → IsSortedBy (λ a b. is_lt (text_cmp (f a) (f b))) xs
  in_order xs rises i d low lt =
      let within : i < length xs = omega (arith, lt) in
      ap is_lt (nat_list_cmp_total.antisymm (f (get_or xs (i + 1) d)) (f (get_or xs i d))
      ∙ ap ordering_reverse (ap (λ x. text_cmp x (f (get_or xs (i + 1) d))) (sym (get_or-map f xs i d (f d) within))
      ∙ ap (λ y. text_cmp (get_or (map f xs) i (f d)) y) (sym (get_or-map f xs (i + 1) d (f d) lt))
      ∙ Less-from_sorted text_cmp (map f xs) i (i + 1) (f d) rises (omega arith)
      (subst (λ n. i + 1 < n) (sym (length-map xs f)) lt)))

  -- so the answers to a name rise, as a binary search asks
  pub searchable : (xs : List X) → IsStrictlySortedBy text_cmp (map f xs) → (w : List ℕ)
      → IsNonDecreasingBy (λ x. ordering_index (text_cmp (f x) w)) xs
  searchable xs rises w = searchable_from_sorted nat_list_cmp_total f xs w (in_order xs rises)

  -- where it finds one, that has the name
  pub found_there : (xs : List X) (w : List ℕ) (i : ℕ) → i < length xs → HoldsAt (λ x. text_cmp (f x) w ≡ Equal) xs i
      → slice_get (map f xs) i ≡ Some w
  found_there [] w i lt at = absurd (omega (arith, lt))
  found_there (x ∷ xs) w i lt at =
      slice_get-map f (x ∷ xs) i ∙ ap (option_map f) (slice_get-get_or (x ∷ xs) i x lt)
      ∙ ap Some (equal_texts (f (get_or (x ∷ xs) i x)) w (at x))

  -- and where it doesn't, none has
  pub found_nowhere : (xs : List X) (w : List ℕ) (i : ℕ)
      → IsPartitionPoint (λ x. text_cmp (f x) w ≡ Less) (λ x. text_cmp (f x) w ≡ Greater) xs i → Contains (map f xs) w → ⊥
  found_nowhere [] w i parted h = omega (arith, h.1)
  found_nowhere (x ∷ xs) w i parted h =
      let within : h.0 < length (x ∷ xs) = subst (λ n. h.0 < n) (length-map (x ∷ xs) f) h.1 in
      let there : slice_get (map f (x ∷ xs)) h.0 ≡ Some w = slice_get-get_or (map f (x ∷ xs)) h.0 w h.1 ∙ ap Some h.2 in
      let same : f (get_or (x ∷ xs) h.0 x) ≡ w =
      sym (get_or-map f (x ∷ xs) h.0 x (f x) within) ∙ get_or_from_slice_get (map f (x ∷ xs)) h.0 w (f x) there
      in elim (cases_lt h.0 i) [
        | inl less ↦ ties (f (get_or (x ∷ xs) h.0 x)) w same Less (parted.0 h.0 x (omega arith) less) refl
        | inr more ↦ ties (f (get_or (x ∷ xs) h.0 x)) w same Greater (parted.1 h.0 x more within) refl
      ]

-- names that rise strictly differ
rises_apart : (xs : List (List ℕ)) (i j : ℕ) (d : List ℕ) → IsStrictlySortedBy text_cmp xs → i < j → j < length xs → get_or xs i d ≡ get_or xs j d
    → ⊥
rises_apart xs i j d rises lt within same =
    ties (get_or xs i d) (get_or xs j d) same Less (Less-from_sorted text_cmp xs i j d rises lt within) refl

pub one_number : {X : Type 0} (f : X → List ℕ) (xs : List X) (d : X) (i j : ℕ) → IsStrictlySortedBy text_cmp (map f xs) → i < length xs
    → j < length xs → f (get_or xs i d) ≡ f (get_or xs j d) → i ≡ j
one_number f xs d i j rises first second same =
    let there : get_or (map f xs) i (f d) ≡ get_or (map f xs) j (f d) =
    get_or-map f xs i d (f d) first ∙ same ∙ sym (get_or-map f xs j d (f d) second)
    in
    let low : i < length (map f xs) = subst (λ n. i < n) (sym (length-map xs f)) first in
    let high : j < length (map f xs) = subst (λ n. j < n) (sym (length-map xs f)) second in
    elim (cases_lt i j) [
      | inl less ↦ absurd (rises_apart (map f xs) i j (f d) rises less high there)
      | inr ge ↦ elim (cases_lt j i) [
        | inl more ↦ absurd (rises_apart (map f xs) j i (f d) rises more low (sym there))
        | inr le ↦ omega (arith, ge, le)
      ]
    ]

-- what is behind the same text is the same
pub same_behind : (a b c : List ℕ) → a ++ b ≡ a ++ c → b ≡ c
same_behind [] b c e = e
same_behind (x ∷ a) b c e = let rest : a ++ b ≡ a ++ c = cc in same_behind a b c rest

-- the names of operations of the code are those of the data
pub names_seen : (xs : List Operation) (ds : List OperationData) → map operation_data xs ≡ ds → map (λ o. o.name) ds ≡ map (λ o. o.name) xs
names_seen xs ds e = ap (map (λ o. o.name)) (sym e) ∙ map-map (λ o. o.name) operation_data xs

-- the operation at a place
pub operation_seen : (xs : List Operation) (ds : List OperationData) (k : ℕ) (x : Operation) → map operation_data xs ≡ ds → k < length ds
    → x ≡ get_or xs k x → operation_data x ≡ get_or ds k no_operation
operation_seen xs ds k x e lt at =
    let long : length ds ≡ length xs = ap length (sym e) ∙ length-map xs operation_data in
    let there : slice_get xs k ≡ Some x = slice_get_read xs (length xs) k x refl (subst (λ n. k < n) long lt) at in
    sym (get_or_from_slice_get ds k (operation_data x) no_operation (ap (λ ys. slice_get ys k) (sym e)
    ∙ slice_get-map operation_data xs k ∙ ap (option_map operation_data) there))
