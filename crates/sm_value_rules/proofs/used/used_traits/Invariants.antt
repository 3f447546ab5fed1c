use Rattle.std.proofs.Common.{◌≡◌, ◌≤◌, ℕ, length}
use Rattle.std.specs.Prelude.{◌↔◌}
use Rattle.sm_model.specs.GraphView.{entries_of}
use Rattle.sm_model.specs.Reaching.{IsMarked}
use Rattle.sm_value_rules.proofs.UsedTraits.{IsUsedBelow}
use Rattle.sm_value_rules.proofs.used.used_traits.Given as goal

abbrev pub invariant-loop-number : goal.invariant-loop-number
invariant-loop-number l = record {
  within : l.number ≤ length (entries_of l.graph);
  whole : length l.marks.items ≡ length (entries_of l.graph);
  used : (k : ℕ) → IsMarked l.marks.items k ↔ IsUsedBelow l.graph l.number k;
}
