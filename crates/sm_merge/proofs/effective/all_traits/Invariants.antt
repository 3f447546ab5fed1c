use Rattle.std.proofs.Common.{◌≤◌}
use Rattle.sm_merge.specs.Limits.{most_in_traits}
use Rattle.sm_merge.specs.steps.Counting.{AreListedTo}
use Rattle.sm_merge.proofs.effective.all_traits.Given as goal

abbrev pub invariant-loop-number : goal.invariant-loop-number
invariant-loop-number l = record {
  small : l.total ≤ most_in_traits;
  listed : AreListedTo l.rows l.traits l.members l.mixed l.order l.number-index l.all.items l.total;
}
