use Rattle.std.proofs.Common.{length}
use Rattle.sm_routes.specs.steps.Matching.{pieces_left}
use Rattle.sm_routes.proofs.Walked.{Walked}
use Rattle.sm_routes.proofs.walk.walk_along.Given as goal

abbrev pub invariant-segments : goal.invariant-segments
invariant-segments l = Walked l.segments (pieces_left l.path) l.depth l.own (pieces_left l.left)

abbrev pub decreases-segments : goal.decreases-segments
decreases-segments l = length l.own
