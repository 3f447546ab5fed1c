use Rattle.sm_model.specs.GraphView.{maps_of}
use Rattle.sm_model.specs.Reaching.{id_of_number}
use Rattle.sm_rules.specs.RuleEvents.{Puts}
use Rattle.sm_passes.specs.Putting.{Below}
use Rattle.sm_value_rules.specs.steps.Nodes.{IsNodeTable}
use Rattle.sm_value_rules.specs.steps.Valuing.{IsWantedTrait, ToldValues}
use Rattle.sm_value_rules.proofs.values.put_by_marks.Given as goal

abbrev pub invariant-loop-number : goal.invariant-loop-number
invariant-loop-number l = record {
  told : Puts (Below (λ k. ToldValues (maps_of l.graph) (id_of_number l.graph k)) l.number) l.fn.events.items l.events.items;
  nodes : IsNodeTable l.graph (IsWantedTrait l.graph) l.nodes;
}
