use Rattle.std.proofs.Common.{◌≡◌, length, take}
use Rattle.sm_model.specs.Reaching.{IsMarked}
use Rattle.sm_model.specs.Joins.{Joins}
use Rattle.sm_trait_rules.specs.steps.Placing.{IsNamedOf}
use Rattle.sm_value_rules.proofs.used.mark_traits.Given as goal

abbrev pub invariant-loop-pair : goal.invariant-loop-pair
invariant-loop-pair l = record {
  count : length l.marks.items ≡ length l.initial.marks.items;
  named : Joins (IsMarked l.initial.marks.items) (IsNamedOf l.graph (take l.pair-index l.traits)) (IsMarked l.marks.items);
}
