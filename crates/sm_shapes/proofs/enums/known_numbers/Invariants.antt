use Rattle.std.proofs.Common.{◌≡◌, ℤ, take}
use Rattle.std.specs.BTreeSet.{contains}
use Rattle.std.specs.List.{list_any}
use Rattle.std.specs.Ordering.{int_cmp, int_eq}
use Rattle.sm_shapes.proofs.enums.known_numbers.Given as goal

abbrev pub invariant-loop-number : goal.invariant-loop-number
invariant-loop-number l = (z : ℤ) → contains int_cmp l.known z ≡ list_any (λ w. int_eq w z) (take l.number-index l.numbers)
