use Rattle.std.proofs.Common.{drop, take}
use Rattle.sm_model.specs.GraphView.{AreShapeNumbers}
use Rattle.sm_rules.specs.RuleEvents.{Puts}
use Rattle.sm_passes.specs.Putting.{ToldOf}
use Rattle.sm_http_rules.specs.steps.BoundTargets.{ToldBoundMember}
use Rattle.sm_http_rules.proofs.bound_targets.put_of_members.Given as goal

abbrev pub invariant-loop-member : goal.invariant-loop-member
invariant-loop-member l = record {
  numbers : AreShapeNumbers l.graph (drop l.member-index l.members);
  told : Puts (ToldOf (ToldBoundMember l.graph l.leading l.side l.payload) (take l.member-index l.members)) l.fn.events.items
      l.events.items;
}
