use Rattle.std.proofs.Common.{sym, ◌∙◌}
use Rattle.sm_ids.specs.IdText.{printed}
use Rattle.sm_ids.specs.View.{id_of}
use Rattle.sm_service.proofs.ServiceClosure.{number_found, number_other}
use Rattle.sm_service.proofs.closure.service_number.Goals as goal

pub returns-then-is_own_service : goal.returns-then-is_own_service
returns-then-is_own_service c =
    number_found c.args.graph.now c.in-Some.number (printed (id_of c.args.id.now)) c.in-Some.ensures
    (sym c.is_own_service.ensures ∙ c.if-is_own_service.true)

pub returns-else-is_own_service : goal.returns-else-is_own_service
returns-else-is_own_service c =
    number_other c.args.graph.now c.in-Some.number (printed (id_of c.args.id.now)) c.in-Some.ensures
    (sym c.is_own_service.ensures ∙ c.if-is_own_service.false)
