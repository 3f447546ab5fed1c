use Rattle.std.proofs.Common.{◌≡◌, ◌<◌, ◌≤◌, ℕ, None, get_or, length}
use Rattle.sm_model.specs.GraphView.{entries_of}
use Rattle.sm_passes.specs.Firsts.{number_in}
use Rattle.sm_trait_rules.specs.steps.Placing.{AreSeen, SharesText}
use Rattle.sm_trait_rules.proofs.first_texts.first_texts.Given as goal

abbrev pub invariant-loop-number : goal.invariant-loop-number
invariant-loop-number l = record {
  within : l.number ≤ length (entries_of l.graph);
  seen : AreSeen l.graph (number_in l.seen);
  whole : length l.firsts.items ≡ l.number;
  each : (k : ℕ) → k < l.number → SharesText l.graph k (get_or l.firsts.items k None);
}
