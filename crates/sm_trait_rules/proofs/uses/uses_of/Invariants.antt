use Rattle.std.proofs.Common.{◌≡◌, ◌≤◌, ℕ, length}
use Rattle.std.specs.Prelude.{◌↔◌}
use Rattle.sm_model.specs.GraphView.{entries_of}
use Rattle.sm_trait_rules.specs.steps.Placing.{HasUse, IsUseBelow}
use Rattle.sm_trait_rules.proofs.uses.uses_of.Given as goal

abbrev pub invariant-loop-number : goal.invariant-loop-number
invariant-loop-number l = record {
  within : l.number ≤ length (entries_of l.graph);
  whole : length l.rows.items ≡ length (entries_of l.graph);
  uses : (p : ℕ × (ℕ × ℕ)) → HasUse l.rows.items p ↔ IsUseBelow l.graph l.firsts l.number p;
}
