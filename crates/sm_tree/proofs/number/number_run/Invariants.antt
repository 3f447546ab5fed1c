use Rattle.std.proofs.Common.{◌≤◌, ◌-◌, length, take}
use Rattle.sm_tree.specs.NumberTail.{NumberLeads, AreNumberBytes}
use Rattle.sm_tree.proofs.number.number_run.Given as goal

abbrev pub invariant-loop-run : goal.invariant-loop-run
invariant-loop-run l = record {
  within : l.run.count ≤ length l.bytes;
  taken : NumberLeads l.fn.phase (take l.run.count l.bytes) l.run.phase;
  bytes : AreNumberBytes (take l.run.count l.bytes);
}

abbrev pub decreases-loop-run : goal.decreases-loop-run
decreases-loop-run l = length l.bytes - l.run.count
