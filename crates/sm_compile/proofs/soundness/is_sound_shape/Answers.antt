use Rattle.std.proofs.Common.{refl, sym}
use Rattle.sm_compile.proofs.SoundShapes.{sound_none}
use Rattle.sm_compile.proofs.soundness.is_sound_shape.Goals as goal

pub returns-in-None : goal.returns-in-None
returns-in-None c = (λ h. sound_none c.args.graph.now c.args.shape (sym c.in-None.ensures), λ s. refl)
