use Rattle.std.proofs.Common.{subst}
use Rattle.std.specs.Prelude.{IfOk}
use Rattle.sm_ids.specs.IdText.{printed}
use Rattle.sm_ids.specs.View.{id_of}
use Rattle.sm_model.specs.GraphView.{maps_of}
use Rattle.sm_compile.specs.Sound.{TellsSound}
use Rattle.sm_compile.proofs.LookedUp.{stands_is}
use Rattle.model_rows.proofs.judged.is_sound.Goals as goal

pub sound-requires : goal.sound-requires
sound-requires c = (stands_is c.args.graph.now c.args.number c.args.number (printed (id_of c.args.id.now)) c.requires).0

pub returns : goal.returns
returns c =
    let g = c.args.graph.now in
    subst (λ id. IfOk c.sound.result (λ b. TellsSound (maps_of g) id b))
    (stands_is g c.args.number c.args.number (printed (id_of c.args.id.now)) c.requires).1 c.sound.ensures
