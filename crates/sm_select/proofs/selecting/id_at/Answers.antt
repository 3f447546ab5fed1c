use Rattle.std.proofs.Common.{sym, ◌∙◌}
use Rattle.sm_select.proofs.FilterFacts.{id_told}
use Rattle.sm_select.proofs.selecting.id_at.Goals as goal

pub returns-in-Ok : goal.returns-in-Ok
returns-in-Ok c =
    c.in-Ok.ensures ∙ sym c.as_ref.ensures.spelled ∙ id_told c.args.graph.now c.args.number c.id.result.now c.id.ensures
