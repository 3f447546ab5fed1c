use Rattle.std.proofs.Common.{◌≡◌, drop}
use Rattle.sm_uri.specs.UriPattern.{uri_said}
use Rattle.sm_routes.specs.Routes.{without_literals}
use Rattle.sm_routes.specs.WrittenTargets.{pairs_left}
use Rattle.sm_routes.proofs.reading.pairs_left.Given as goal

abbrev pub invariant-loop-literal : goal.invariant-loop-literal
invariant-loop-literal l =
    without_literals (drop l.literal-index l.uri.literals.items) l.pairs.items ≡ pairs_left (uri_said l.uri) l.target
