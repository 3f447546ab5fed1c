use Rattle.std.proofs.Common.{drop}
use Rattle.std.specs.List.Sorted.{IsStrictlySortedBy}
use Rattle.std.specs.Ordering.{nat_cmp}
use Rattle.codec_bodies.proofs.Rising.{with_last}
use Rattle.codec_bodies.proofs.order.rise.Given as goal

abbrev pub invariant-loop-number : goal.invariant-loop-number
invariant-loop-number l = IsStrictlySortedBy nat_cmp (with_last l.last (drop l.number-index l.numbers))
    → IsStrictlySortedBy nat_cmp l.numbers
