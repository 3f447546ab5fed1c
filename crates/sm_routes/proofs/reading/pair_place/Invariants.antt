use Rattle.sm_routes.specs.Routes.{literal_pair}
use Rattle.sm_routes.proofs.WrittenPieces.{NoneTaken}
use Rattle.sm_routes.proofs.reading.pair_place.Given as goal

abbrev pub invariant-loop-place : goal.invariant-loop-place
invariant-loop-place l = NoneTaken (literal_pair l.literal) l.pairs l.place
