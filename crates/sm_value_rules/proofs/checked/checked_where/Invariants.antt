use Rattle.std.proofs.Common.{◌≡◌, ◌≤◌, length, true}
use Rattle.sm_model.specs.GraphView.{entries_of}
use Rattle.sm_model.specs.Reaching.{AreMarks}
use Rattle.sm_value_rules.specs.steps.Checking.{is_checked_at}
use Rattle.sm_value_rules.proofs.checked.checked_where.Given as goal

abbrev pub invariant-loop-number : goal.invariant-loop-number
invariant-loop-number l = record {
  within : l.number ≤ length (entries_of l.graph);
  marks : AreMarks l.number (λ k. is_checked_at l.graph l.faulty l.before k ≡ true) l.marks.items;
}
