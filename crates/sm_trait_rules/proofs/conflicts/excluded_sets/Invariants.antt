use Rattle.std.proofs.Common.{◌≡◌, ◌≤◌, length}
use Rattle.sm_model.specs.GraphView.{entries_of}
use Rattle.sm_trait_rules.specs.steps.Conflicting.{AreExcludedBelow}
use Rattle.sm_trait_rules.proofs.conflicts.excluded_sets.Given as goal

abbrev pub invariant-loop-number : goal.invariant-loop-number
invariant-loop-number l = record {
  within : l.number ≤ length (entries_of l.graph);
  whole : length l.sets.items ≡ l.number;
  each : AreExcludedBelow l.graph l.sets.items;
}
