-- What is kept beside examples, so that the first of an operation and an input is found by halves: their places, by the operation, then by
-- the input, then as they stand.
use Rattle.std.specs.Prelude.{◌≡◌, ◌<◌, ℕ, true, List, Option, None, Some, length, nat_eq, slice_get}
use Rattle.std.specs.List.{list_any}
use Rattle.std.specs.List.Sorted.{IsSortedBy}
use Rattle.std.specs.Ordering.{is_lt, nat_cmp, on, then_cmp}
use Rattle.std.specs.declared.cmp.Ordering.{Ordering}
use Rattle.sm_shapes.specs.ValueOrder.{val_cmp}
use Rattle.sm_shapes.specs.Values.{Val, null_val}
use Rattle.sm_examples.specs.ExampleData.{ExampleData}

-- whether an example stands at a place, its operation and its input, and the place
abbrev pub Rank : Type 0
Rank = ℕ × ℕ × Val × ℕ

abbrev pub rank : ℕ → ℕ → Val → ℕ → Rank
rank there o v k = (there, o, v, k)

abbrev pub rank_of : Option ExampleData → ℕ → Rank
rank_of None k = rank 0 0 null_val k
rank_of (Some e) k = rank 1 e.operation e.input k

abbrev pub rank_at : List ExampleData → ℕ → Rank
rank_at es k = rank_of (slice_get es k) k

abbrev pub rank_cmp : Rank → Rank → Ordering
rank_cmp = then_cmp (on (λ r. r.0) nat_cmp) (then_cmp (on (λ r. r.1) nat_cmp) (then_cmp (on (λ r. r.2) val_cmp) (on (λ r. r.3) nat_cmp)))

-- the place of each example is one of these, and they stand in that order. Each fact has one proof, so a struct can keep them
pub record IsInputOrder (es : List ExampleData) (places : List ℕ) : Type 0 where
  pub all : (k : ℕ) → k < length es → list_any (nat_eq k) places ≡ true
  pub sorted : IsSortedBy (λ j k. is_lt (rank_cmp (rank_at es j) (rank_at es k))) places
