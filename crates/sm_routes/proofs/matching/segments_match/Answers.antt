use Rattle.std.proofs.Common.{◌∙◌}
use Rattle.sm_routes.proofs.PathPieces.{none_is, none_of}
use Rattle.sm_routes.proofs.matching.segments_match.Goals as goal

pub returns-in-None : goal.returns-in-None
returns-in-None c =
    none_is c.segments.left c.is_none.result c.is_none.ensures ∙ none_of c.segments.own.now c.segments.left c.in-None.ensures.cases
    ∙ c.segments.invariant
