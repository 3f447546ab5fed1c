use Rattle.std.proofs.Common.{None}
use Rattle.sm_merge.specs.steps.Links.{links_view}
use Rattle.sm_merge.specs.steps.Walking.{IsMet, IsWalking, KeepsMet, steps_left}
use Rattle.sm_merge.proofs.walk.Walk.visit.Given as goal

abbrev pub decreases-loop : goal.decreases-loop
decreases-loop l = steps_left (links_view l.links) l.self

abbrev pub invariant-loop : goal.invariant-loop
invariant-loop l = record {
  walking : IsWalking (links_view l.links) None l.self;
  kept : KeepsMet l.fn.self l.self;
  met : IsMet l.self.status.items l.number;
}
