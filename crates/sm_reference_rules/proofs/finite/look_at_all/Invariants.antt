use Rattle.std.proofs.Common.{◌<◌, ◌≤◌, length}
use Rattle.sm_model.specs.GraphView.{entries_of}
use Rattle.sm_reference_rules.specs.steps.Finding.{Moves}
use Rattle.sm_reference_rules.proofs.finite.look_at_all.Given as goal

abbrev pub invariant-loop-number : goal.invariant-loop-number
invariant-loop-number l = record {
  within : l.number ≤ length (entries_of l.graph);
  moves : Moves l.graph (λ k. k < l.number) l.initial.known l.known;
}
