use Rattle.std.proofs.Common.{drop, take}
use Rattle.sm_model.specs.GraphView.{AreShapeNumbers, maps_of}
use Rattle.sm_model.specs.Reaching.{id_of_number}
use Rattle.sm_rules.specs.RuleEvents.{Puts}
use Rattle.sm_passes.specs.Putting.{ToldOf}
use Rattle.sm_value_rules.specs.steps.Defaulting.{IsWantedTarget, ToldDefault}
use Rattle.sm_value_rules.specs.steps.Nodes.{IsNodeTable}
use Rattle.sm_value_rules.proofs.defaults.put_of_members.Given as goal

abbrev pub invariant-loop-member : goal.invariant-loop-member
invariant-loop-member l = record {
  numbers : AreShapeNumbers l.graph (drop l.member-index l.members);
  told : Puts (ToldOf (λ k. ToldDefault (maps_of l.graph) (id_of_number l.graph k)) (take l.member-index l.members))
      l.fn.events.items l.events.items;
  nodes : IsNodeTable l.graph (IsWantedTarget l.graph) l.nodes;
}
