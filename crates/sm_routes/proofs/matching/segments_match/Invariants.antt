use Rattle.std.proofs.Common.{◌≡◌, length}
use Rattle.sm_routes.specs.Routes.{segments_match}
use Rattle.sm_routes.specs.steps.Matching.{pieces_left}
use Rattle.sm_routes.proofs.matching.segments_match.Given as goal

abbrev pub invariant-segments : goal.invariant-segments
invariant-segments l = segments_match l.own (pieces_left l.left) ≡ segments_match l.segments (pieces_left l.path)

abbrev pub decreases-segments : goal.decreases-segments
decreases-segments l = length l.own
