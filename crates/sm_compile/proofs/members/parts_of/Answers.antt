use Rattle.std.proofs.Common.{subst}
use Rattle.sm_ids.specs.IdText.{IdText}
use Rattle.sm_ids.specs.View.{id_of}
use Rattle.sm_compile.proofs.LookedUp.{its_id}
use Rattle.sm_compile.proofs.members.parts_of.Goals as goal

pub returns : goal.returns
returns c =
    subst (IdText (id_of c.as_ref.result)) (its_id c.args.graph.now c.args.number c.id.result.now c.id.ensures)
    (record { is_id = c.as_ref.ensures.is_id; spelled = c.as_ref.ensures.spelled })
