use Rattle.std.proofs.Common.{take}
use Rattle.sm_model.specs.GraphView.{maps_of}
use Rattle.sm_model.specs.Reaching.{id_of_number}
use Rattle.sm_rules.specs.RuleEvents.{Puts}
use Rattle.sm_passes.specs.Putting.{ToldOf}
use Rattle.sm_value_rules.specs.steps.Nodes.{IsNodeTable}
use Rattle.sm_value_rules.specs.steps.Valuing.{IsWantedTrait, ToldValue}
use Rattle.sm_value_rules.proofs.values.put_of_traits.Given as goal

abbrev pub invariant-loop-pair : goal.invariant-loop-pair
invariant-loop-pair l = record {
  told : Puts (ToldOf (ToldValue (maps_of l.graph) (id_of_number l.graph l.fn.number)) (take l.pair-index l.traits))
      l.fn.events.items l.events.items;
  nodes : IsNodeTable l.graph (IsWantedTrait l.graph) l.nodes;
}
