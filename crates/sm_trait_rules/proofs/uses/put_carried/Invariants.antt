use Rattle.std.proofs.Common.{◌≡◌, length, take}
use Rattle.sm_model.specs.Joins.{Joins}
use Rattle.sm_trait_rules.specs.steps.Placing.{HasUse}
use Rattle.sm_trait_rules.proofs.UsesPut.{IsUseOfOne}
use Rattle.sm_trait_rules.proofs.uses.put_carried.Given as goal

abbrev pub invariant-loop-pair : goal.invariant-loop-pair
invariant-loop-pair l = record {
  count : length l.rows.items ≡ length l.initial.rows.items;
  uses : Joins (HasUse l.initial.rows.items) (IsUseOfOne l.graph l.firsts l.number (take l.pair-index l.traits)) (HasUse l.rows.items);
}
