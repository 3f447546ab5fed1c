use Rattle.std.proofs.Common.{◌≡◌, ◌++◌, length}
use Rattle.sm_uri.specs.UriPattern.{uri_said}
use Rattle.sm_routes.specs.Routes.{labels_of}
use Rattle.sm_routes.specs.WrittenTargets.{target_labels}
use Rattle.sm_routes.specs.steps.Matching.{pieces_left}
use Rattle.sm_routes.proofs.reading.labels.Given as goal

abbrev pub invariant-segments : goal.invariant-segments
invariant-segments l = l.labels.items ++ labels_of l.own (pieces_left l.left) ≡ target_labels (uri_said l.uri) l.target

abbrev pub decreases-segments : goal.decreases-segments
decreases-segments l = length l.own
