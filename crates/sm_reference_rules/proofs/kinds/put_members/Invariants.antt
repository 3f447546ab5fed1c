use Rattle.std.proofs.Common.{drop, take}
use Rattle.sm_model.specs.GraphView.{AreShapeNumbers}
use Rattle.sm_rules.specs.RuleEvents.{Puts}
use Rattle.sm_passes.specs.Putting.{ToldOf}
use Rattle.sm_reference_rules.specs.steps.Targets.{ToldMember}
use Rattle.sm_reference_rules.proofs.kinds.put_members.Given as goal

abbrev pub invariant-loop-member : goal.invariant-loop-member
invariant-loop-member l = record {
  numbers : AreShapeNumbers l.graph (drop l.member-index l.members);
  puts : Puts (ToldOf (ToldMember l.graph l.home l.shape) (take l.member-index l.members)) l.fn.events.items l.events.items;
}
