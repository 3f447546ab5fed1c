use Rattle.std.proofs.Common.{ap, not, ◌∙◌}
use Rattle.sm_model.specs.PreludeShapes.{is_prelude_id}
use Rattle.sm_select.proofs.FilterFacts.{id_told}
use Rattle.sm_select.proofs.selecting.is_start.Goals as goal

pub returns : goal.returns
returns c =
    ap not (c.is_in_prelude.ensures
    ∙ ap is_prelude_id (c.as_str.ensures ∙ id_told c.args.graph.now c.args.number c.id.result.now c.id.ensures))
