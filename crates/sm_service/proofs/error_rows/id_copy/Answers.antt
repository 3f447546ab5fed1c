use Rattle.std.proofs.Common.{sym, ◌∙◌}
use Rattle.sm_compile.proofs.LookedUp.{its_id}
use Rattle.sm_service.proofs.error_rows.id_copy.Goals as goal

pub returns-in-Ok : goal.returns-in-Ok
returns-in-Ok c = c.in-Ok.ensures ∙ sym c.as_ref.ensures.spelled ∙ its_id c.args.graph.now c.args.number c.id.result.now c.id.ensures
