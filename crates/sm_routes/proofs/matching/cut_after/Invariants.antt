use Rattle.std.proofs.Common.{drop}
use Rattle.sm_routes.proofs.PathPieces.{IsWalked}
use Rattle.sm_routes.proofs.matching.cut_after.Given as goal

abbrev pub invariant-pieces : goal.invariant-pieces
invariant-pieces l = IsWalked l.count l.path l.len l.left (drop l.len l.path)

abbrev pub decreases-pieces : goal.decreases-pieces
decreases-pieces l = l.left
