-- The first example of an operation with an input, found by halves among the places in their order.
use Rattle.std.proofs.Common.{◌≡◌, inl, inr, ℕ, ◌<◌, ◌≤◌, Bool, true, false, List, length, get_or, refl, sym, ap, ◌∙◌, subst, arith}
use denote.Ref.{Bor}
use Rattle.std.specs.Prelude.{MatchOption, None, Option, Some, nat_eq, slice_get}
use Rattle.std.specs.Cmp.{IsTotalOrder}
use Rattle.std.specs.List.{Contains, list_any, range_with_len}
use Rattle.std.specs.List.Sorted.{IsPartitionPoint, IsPartitionedBy, IsPermutation}
use Rattle.std.specs.Ordering.{MatchOrdering, is_lt, nat_cmp, ordering_index, ordering_reverse, ordering_then}
use Rattle.std.specs.declared.cmp.Ordering.{Ordering}
use Rattle.std.specs.declared.cmp.Ordering.TheVariants.{Less, Equal, Greater}
use Rattle.std.proofs.lemmas.Bool.{cases_lt}
use Rattle.std.proofs.lemmas.Bool.Decides.{Decides-eqb}
use Rattle.std.proofs.lemmas.Cmp.{nat_cmp_total, nat_eq_equiv, on_total, ranked, then_total, tied_itself}
use Rattle.std.proofs.lemmas.List.Sorted.{Contains-permutation, ranks_by, searchable_from_sorted, sorted_far}
use Rattle.std.proofs.lemmas.Map.Views.{Contains-from_any, list_any-from_Contains}
use Rattle.std.proofs.lemmas.Option.{get_or_from_slice_get, slice_get-get_or, slice_get_within}
use Rattle.sm_shapes.specs.ValueOrder.{val_cmp}
use Rattle.sm_shapes.specs.Values.{Val}
use Rattle.sm_shapes.proofs.NamedMembers.{among_contains}
use Rattle.sm_shapes.proofs.ValueOrders.{equal_is_same, values_in_order}
use Rattle.sm_messages.proofs.service.ErrorsNamed.{below_among}
use Rattle.sm_examples.specs.ExampleData.{ExampleData}
use Rattle.sm_examples.specs.ExampleView.{example_data}
use Rattle.sm_examples.specs.FirstExamples.{IsFirstFor, IsFor, NoneIsFor}
use Rattle.sm_examples.specs.InputOrder.{IsInputOrder, Rank, rank, rank_at, rank_cmp, rank_of}
use Rattle.sm_examples.specs.declared.example.Example.{Example}

pub ranks_total : IsTotalOrder rank_cmp
ranks_total = then_total (on_total (λ r. r.0) nat_cmp_total)
    (then_total (on_total (λ r. r.1) nat_cmp_total)
    (then_total (on_total (λ r. r.2) values_in_order) (on_total (λ r. r.3) nat_cmp_total)))

pub never_both : (b : Bool) → b ≡ true → b ≡ false → ⊥
never_both true h g = cc
never_both false h g = cc

-- places in another order are all there
pub all_stand : (n : ℕ) (ks : List ℕ) → IsPermutation (range_with_len 0 n) ks → (k : ℕ) → k < n → list_any (nat_eq k) ks ≡ true
all_stand n ks moved k lt =
    list_any-from_Contains nat_eq_equiv k ks
    (Contains-permutation (range_with_len 0 n) ks k moved
    (among_contains k (range_with_len 0 n) (below_among 0 n k (omega arith) (omega (arith, lt)))))

-- what comes before is told by the least index
less_index : (o : Ordering) → is_lt o ≡ true → ordering_index o ≤ 0
less_index Less h = omega arith
less_index Equal h = absurd cc
less_index Greater h = absurd cc

index_less : (o : Ordering) → ordering_index o ≤ 0 → is_lt o ≡ true
index_less Less h = refl
index_less Equal h = absurd (omega (arith, h))
index_less Greater h = absurd (omega (arith, h))

-- the places before a rank stand before the others
pub places_parted : (es : List ExampleData) (places : List ℕ) (x : Rank) → IsInputOrder es places
    → IsPartitionedBy (λ k. is_lt (rank_cmp (rank_at es k) x)) places
places_parted es places x order = λ i j d le lt h.
    let rises = searchable_from_sorted ranks_total (rank_at es) places x order.sorted in
    let least = rises i j d le lt in
    let none = less_index (rank_cmp (rank_at es (get_or places j d)) x) h in
    index_less (rank_cmp (rank_at es (get_or places i d)) x) (omega (arith, least, none))

-- of two ranks of one operation and input the place decides
same_key : (o : ℕ) (v : Val) (j k : ℕ) → rank_cmp (rank 1 o v j) (rank 1 o v k) ≡ nat_cmp j k
same_key o v j k =
    ap (λ r. ordering_then r (ordering_then (val_cmp v v) (nat_cmp j k))) (tied_itself nat_cmp_total o)
    ∙ ap (λ r. ordering_then r (nat_cmp j k)) (tied_itself values_in_order v)

pub never_below : (k : ℕ) → is_lt (nat_cmp k 0) ≡ false
never_below k = by (nat_cmp k 0) (ranked k 0 (nat_cmp k 0) refl)
  where
    by : (o : Ordering) → MatchOrdering o (k < 0) (k ≡ 0) (0 < k) → is_lt o ≡ false
    by Less h = absurd (omega (arith, h))
    by Equal h = refl
    by Greater h = refl

surely_below : (j k : ℕ) → j < k → is_lt (nat_cmp j k) ≡ true
surely_below j k lt = by (nat_cmp j k) (ranked j k (nat_cmp j k) refl)
  where
    by : (o : Ordering) → MatchOrdering o (j < k) (j ≡ k) (k < j) → is_lt o ≡ true
    by Less h = refl
    by Equal h = absurd (omega (arith, h, lt))
    by Greater h = absurd (omega (arith, h, lt))

same_number : (j k : ℕ) → nat_cmp j k ≡ Equal → j ≡ k
same_number j k e = subst (λ o. MatchOrdering o (j < k) (j ≡ k) (k < j)) e (ranked j k (nat_cmp j k) refl)

-- neither comes before the other
tied : (a b c d : Ordering) → is_lt (ordering_then a (ordering_then b c)) ≡ false
    → is_lt (ordering_then (ordering_reverse a) (ordering_then (ordering_reverse b) d)) ≡ false → (a ≡ Equal) × (b ≡ Equal)
tied Less b c d h g = absurd cc
tied Equal Less c d h g = absurd cc
tied Equal Equal c d h g = (refl, refl)
tied Equal Greater c d h g = absurd cc
tied Greater b c d h g = absurd cc

rank_for : (es : List ExampleData) (o : ℕ) (v : Val) (k : ℕ) (e : ExampleData) → slice_get es k ≡ Some e → IsFor o v e
    → rank_at es k ≡ rank 1 o v k
rank_for es o v k e there is =
    ap (λ x. rank_of x k) there ∙ ap (λ n. rank 1 n e.input k) is.operation ∙ ap (λ w. rank 1 o w k) is.input

module _ (es : List ExampleData) (places : List ℕ) (order : IsInputOrder es places) (o : ℕ) (v : Val) (at : ℕ)
    (point : IsPartitionPoint (λ k. is_lt (rank_cmp (rank_at es k) (rank 1 o v 0)) ≡ true)
    (λ k. is_lt (rank_cmp (rank_at es k) (rank 1 o v 0)) ≡ false) places at) where
  stands : (k : ℕ) (e : ExampleData) → slice_get es k ≡ Some e → Contains places k
  stands k e there = Contains-from_any (λ i j. (Decides-eqb i j).0) k places (order.all k (slice_get_within es k e there))

  not_before : (k : ℕ) (e : ExampleData) → slice_get es k ≡ Some e → IsFor o v e
      → is_lt (rank_cmp (rank_at es k) (rank 1 o v 0)) ≡ false
  not_before k e there is =
      ap (λ r. is_lt (rank_cmp r (rank 1 o v 0))) (rank_for es o v k e there is) ∙ ap is_lt (same_key o v k 0) ∙ never_below k

  -- an example of the operation with the input stands behind the point
  behind : (k : ℕ) (e : ExampleData) → slice_get es k ≡ Some e → IsFor o v e
      → (m : ℕ) × (at ≤ m) × (m < length places) × (get_or places m k ≡ k)
  behind k e there is =
      let c = stands k e there in
      elim (cases_lt c.0 at) [
        | inl less ↦
            absurd (never_both (is_lt (rank_cmp (rank_at es k) (rank 1 o v 0)))
            (subst (λ j. is_lt (rank_cmp (rank_at es j) (rank 1 o v 0)) ≡ true) c.2 (point.0 c.0 k (omega arith) less))
            (not_before k e there is))
        | inr ge ↦ (c.0, ge, c.1, c.2)
      ]

  -- and not before the one that stands at it
  far : (k : ℕ) (e : ExampleData) → slice_get es k ≡ Some e → IsFor o v e → (first : ℕ) → slice_get places at ≡ Some first
      → is_lt (rank_cmp (rank_at es k) (rank_at es first)) ≡ false
  far k e there is first here =
      let (m, le, lt, same) = behind k e there is in
      subst (λ j. is_lt (rank_cmp (rank_at es j) (rank_at es first)) ≡ false) same
      (subst (λ j. is_lt (rank_cmp (rank_at es (get_or places m k)) (rank_at es j)) ≡ false) (get_or_from_slice_get places at first k here)
      (sorted_far (λ i j. is_lt (rank_cmp (rank_at es i) (rank_at es j))) (ranks_by ranks_total (rank_at es)) places order.sorted
      at m k le lt))

  first_found : (first : ℕ) (e : ExampleData) → slice_get places at ≡ Some first → slice_get es first ≡ Some e → IsFor o v e
      → IsFirstFor es o v e
  first_found first e here there is = record {
    place = first;
    there = there;
    is = is;
    first = λ k other lt at_k is_k.
        never_both (is_lt (nat_cmp k first)) (surely_below k first lt)
        (sym (ap is_lt (same_key o v k first)) ∙ ap (λ r. is_lt (rank_cmp r (rank 1 o v first))) (sym (rank_for es o v k other at_k is_k))
        ∙ ap (λ r. is_lt (rank_cmp (rank_at es k) r)) (sym (rank_for es o v first e there is)) ∙ far k other at_k is_k first here);
  }

  -- where none stands at the point, or another one does, there is none
  pub none_at_end : slice_get places at ≡ None → NoneIsFor es o v
  none_at_end here k e there is =
      let (m, le, lt, same) = behind k e there is in none_within places at here (omega (arith, le, lt))
    where
      none_within : (xs : List ℕ) (i : ℕ) → slice_get xs i ≡ None → i < length xs → ⊥
      none_within xs i none small = some_none (get_or xs i 0) (sym (slice_get-get_or xs i 0 small) ∙ none)
        where
          some_none : (x : ℕ) → Path (Option ℕ) (Some x) None → ⊥
          some_none x h = cc

  tied_there : (k : ℕ) (e : ExampleData) → slice_get es k ≡ Some e → IsFor o v e → (first : ℕ) → slice_get places at ≡ Some first
      → (x : Option ExampleData) → slice_get es first ≡ x → (other : ExampleData) × (x ≡ Some other) × IsFor o v other
  tied_there k e there is first here None none =
      absurd (never_both true refl
      (sym (ap (λ x. is_lt (rank_cmp (rank_of x first) (rank 1 o v 0))) none)
      ∙ subst (λ j. is_lt (rank_cmp (rank_at es j) (rank 1 o v 0)) ≡ false) (get_or_from_slice_get places at first k here)
      (point.1 at k (omega arith) (slice_get_within places at first here))))
  tied_there k e there is first here (Some other) some =
      let at_first : rank_at es first ≡ rank 1 other.operation other.input first = ap (λ x. rank_of x first) some in
      let left : is_lt (ordering_then (nat_cmp other.operation o) (ordering_then (val_cmp other.input v) (nat_cmp first 0))) ≡ false =
      sym (ap (λ r. is_lt (rank_cmp r (rank 1 o v 0))) at_first)
      ∙ subst (λ j. is_lt (rank_cmp (rank_at es j) (rank 1 o v 0)) ≡ false) (get_or_from_slice_get places at first k here)
      (point.1 at k (omega arith) (slice_get_within places at first here)) in
      let right : is_lt (ordering_then (nat_cmp o other.operation) (ordering_then (val_cmp v other.input) (nat_cmp k first))) ≡ false =
      sym (ap (λ r. is_lt (rank_cmp r (rank 1 other.operation other.input first))) (rank_for es o v k e there is))
      ∙ ap (λ r. is_lt (rank_cmp (rank_at es k) r)) (sym at_first) ∙ far k e there is first here in
      let turned : is_lt (ordering_then (ordering_reverse (nat_cmp other.operation o))
      (ordering_then (ordering_reverse (val_cmp other.input v)) (nat_cmp k first))) ≡ false =
      sym (ap (λ r. is_lt (ordering_then r (ordering_then (val_cmp v other.input) (nat_cmp k first))))
      (nat_cmp_total.antisymm o other.operation)
      ∙ ap (λ r. is_lt (ordering_then (ordering_reverse (nat_cmp other.operation o)) (ordering_then r (nat_cmp k first))))
      (values_in_order.antisymm v other.input)) ∙ right in
      let both = tied (nat_cmp other.operation o) (val_cmp other.input v) (nat_cmp first 0) (nat_cmp k first) left turned in (
        other,
        refl,
        record {
          operation = same_number other.operation o both.0;
          input = (equal_is_same other.input v).0 both.1;
        },
      )

  none_at_point : (first : ℕ) → slice_get places at ≡ Some first
      → ((e : ExampleData) → slice_get es first ≡ Some e → IsFor o v e → ⊥) → NoneIsFor es o v
  none_at_point first here other k e there is =
      let (found, same, found_is) = tied_there k e there is first here (slice_get es first) refl in other found same found_is

  -- so what stands at the point is the first one, or there is none
  pub found_or_none : (first : ℕ) → slice_get places at ≡ Some first → (r : Option (Bor Example))
      → MatchOption r ((e : ExampleData) → slice_get es first ≡ Some e → IsFor o v e → ⊥)
      (λ e. (slice_get es first ≡ Some (example_data e.now)) × IsFor o v (example_data e.now))
      → MatchOption r (NoneIsFor es o v) (λ e. IsFirstFor es o v (example_data e.now))
  found_or_none first here None none = none_at_point first here none
  found_or_none first here (Some e) (there, is) = first_found first (example_data e.now) here there is
