use Rattle.std.proofs.Common.{◌≡◌, ◌≤◌, ◌-◌, false, length, take}
use Rattle.sm_tree.specs.NumberTail.{NumberLeads}
use Rattle.sm_tree.specs.declared.number.Phase.TheVariants.{Start}
use Rattle.sm_select.specs.steps.Taking.{IsLongestTo, run_open}
use Rattle.sm_select.proofs.parser_number.number_len.Given as goal

abbrev pub invariant-loop-at : goal.invariant-loop-at
invariant-loop-at l = record {
  within : l.at ≤ length l.bytes;
  leads : NumberLeads Start (take l.at l.bytes) l.phase;
  run : l.in_run ≡ run_open false (take l.at l.bytes);
  longest : IsLongestTo l.bytes l.at l.len;
}

abbrev pub decreases-loop-at : goal.decreases-loop-at
decreases-loop-at l = length l.bytes - l.at
