use Rattle.std.proofs.Common.{◌≡◌, drop}
use Rattle.sm_parts.specs.Targets.{query_pairs}
use Rattle.sm_routes.specs.Routes.{literals_stand}
use Rattle.sm_routes.proofs.query.literals_stand.Given as goal

abbrev pub invariant-loop-literal : goal.invariant-loop-literal
invariant-loop-literal l =
    literals_stand (drop l.literal-index l.literals) (query_pairs l.query) ≡ literals_stand l.literals (query_pairs l.query)
