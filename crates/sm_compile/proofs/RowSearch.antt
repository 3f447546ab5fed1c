-- A binary search among numbers that rise finds the one that is there.
use Rattle.std.proofs.Common.{◌≡◌, inl, inr, ℕ, ◌<◌, ◌≤◌, List, length, get_or, Some, sym, ap, ◌∙◌, arith}
use Rattle.std.specs.Prelude.{Err, slice_get}
use Rattle.std.specs.List.{Contains}
use Rattle.std.specs.List.Sorted.{IsBinarySearchResult, IsStrictlySortedBy}
use Rattle.std.specs.Ordering.{nat_cmp}
use Rattle.std.specs.declared.cmp.Ordering.TheVariants.{Equal, Less}
use Rattle.std.proofs.lemmas.Bool.{cases_eq, cases_lt}
use Rattle.std.proofs.lemmas.Cmp.{ranked}
use Rattle.std.proofs.lemmas.List.{get_or_default}
use Rattle.std.proofs.lemmas.List.Sorted.{searched}
use Rattle.std.proofs.lemmas.Map.Keys.{Less-from_sorted}
use Rattle.std.proofs.lemmas.Option.{slice_get-get_or}

rises_by : (xs : List ℕ) → IsStrictlySortedBy nat_cmp xs → (i j : ℕ) → i ≤ j → j < length xs → get_or xs i 0 ≤ get_or xs j 0
rises_by xs up i j le lt = elim (cases_eq i j) [
  | inl e ↦ let same : get_or xs i 0 ≡ get_or xs j 0 = ap (λ k. get_or xs k 0) e in omega (arith, same)
  | inr other ↦ below (elim (cases_lt i j) [ inl l ↦ l | inr ge ↦ absurd (other (omega (arith, ge, le))) ])
]
  where
    below : i < j → get_or xs i 0 ≤ get_or xs j 0
    below less =
        let r : get_or xs i 0 < get_or xs j 0 = ranked (get_or xs i 0) (get_or xs j 0) Less
        (sym (Less-from_sorted nat_cmp xs i j 0 up less lt)) in
        omega (arith, r)

pub found_row : (xs : List ℕ) (x i : ℕ) → i < length xs → nat_cmp (get_or xs i 0) x ≡ Equal → slice_get xs i ≡ Some x
found_row xs x i lt h = slice_get-get_or xs i 0 lt ∙ ap Some (ranked (get_or xs i 0) x Equal (sym h))

pub missed_row : (xs : List ℕ) (x i : ℕ) → IsStrictlySortedBy nat_cmp xs → IsBinarySearchResult (λ y. nat_cmp y x) xs (Err i)
    → Contains xs x → ⊥
missed_row xs x i up h there =
    let r = searched xs x (Err i) h (rises_by xs up) in
    let is : get_or xs there.0 0 ≡ x = get_or_default xs there.0 0 x there.1 ∙ there.2 in
    elim (cases_lt there.0 i) [
      | inl less ↦ let low = r.1 there.0 less in omega (arith, low, is)
      | inr ge ↦ let high = r.2 there.0 ge there.1 in omega (arith, high, is)
    ]
