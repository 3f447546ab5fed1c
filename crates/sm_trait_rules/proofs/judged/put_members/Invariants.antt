use Rattle.std.proofs.Common.{drop, take}
use Rattle.sm_model.specs.GraphView.{AreShapeNumbers, maps_of}
use Rattle.sm_model.specs.Reaching.{id_of_number}
use Rattle.sm_rules.specs.RuleEvents.{Puts}
use Rattle.sm_trait_rules.specs.steps.Judging.{ToldMember}
use Rattle.sm_passes.specs.Putting.{ToldOf}
use Rattle.sm_trait_rules.proofs.judged.put_members.Given as goal

abbrev pub invariant-loop-member : goal.invariant-loop-member
invariant-loop-member g l = record {
  numbers : AreShapeNumbers l.graph (drop l.member-index l.members);
  puts : Puts (ToldOf (λ k. ToldMember (g.J.Judge.rule l.judge) (g.J.Judge.wrong l.judge) (maps_of l.graph) l.home (id_of_number l.graph k))
      (take l.member-index l.members)) l.fn.events.items l.events.items;
}
