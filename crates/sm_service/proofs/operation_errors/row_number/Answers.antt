use Rattle.sm_service.proofs.OnceNumbers.{id_stands}
use Rattle.sm_compile.proofs.LookedUp.{stands_is}
use Rattle.sm_service.proofs.operation_errors.row_number.Goals as goal

pub unreachable-requires : goal.unreachable-requires
unreachable-requires c = id_stands c.args.graph.now c.args.id.now c.requires c.in-None.ensures

pub returns-clause-number : goal.returns-clause-number
returns-clause-number c = let n = c.in-Some.number in (stands_is c.args.graph.now n n c.args.id.now c.in-Some.ensures).0

pub returns-clause-id : goal.returns-clause-id
returns-clause-id c = let n = c.in-Some.number in (stands_is c.args.graph.now n n c.args.id.now c.in-Some.ensures).1
