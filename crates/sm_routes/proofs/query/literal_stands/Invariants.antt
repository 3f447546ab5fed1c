use Rattle.std.proofs.Common.{◌≡◌, length}
use Rattle.std.specs.List.{list_any}
use Rattle.sm_parts.specs.Targets.{query_pairs}
use Rattle.sm_routes.specs.Routes.{is_pair, literal_pair}
use Rattle.sm_routes.proofs.query.literal_stands.Given as goal

abbrev pub invariant-pairs : goal.invariant-pairs
invariant-pairs l = list_any (is_pair (literal_pair l.literal)) (query_pairs l.rest) ≡ list_any (is_pair (literal_pair l.literal)) (query_pairs l.query)

abbrev pub decreases-pairs : goal.decreases-pairs
decreases-pairs l = length l.rest
