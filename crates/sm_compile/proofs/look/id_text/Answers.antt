use Rattle.std.proofs.Common.{◌∙◌}
use Rattle.sm_compile.proofs.LookedUp.{its_id}
use Rattle.sm_compile.proofs.look.id_text.Goals as goal

pub returns : goal.returns
returns c = c.as_str.ensures ∙ its_id c.args.graph.now c.args.number c.id.result.now c.id.ensures
