use Rattle.std.proofs.Common.{◌≡◌, ◌<◌, ◌≤◌, ℕ, false, get_or, length}
use Rattle.sm_model.specs.GraphView.{entries_of}
use Rattle.sm_value_rules.specs.steps.Checking.{TellsFault}
use Rattle.sm_value_rules.proofs.checked.faulty_shapes.Given as goal

abbrev pub invariant-loop-number : goal.invariant-loop-number
invariant-loop-number l = record {
  within : l.number ≤ length (entries_of l.graph);
  long : length l.marks.items ≡ l.number;
  each : (k : ℕ) → k < l.number → TellsFault l.graph k (get_or l.marks.items k false);
}
