use Rattle.std.proofs.Common.{◌∙◌, sym}
use Rattle.sm_model.proofs.Worklist.{apart}
use Rattle.sm_compile.proofs.SoundShapes.{sound_without}
use Rattle.sm_compile.proofs.soundness.sound.Goals as goal

pub returns-else-is_value_shape : goal.returns-else-is_value_shape
returns-else-is_value_shape c =
    sound_without c.args.graph.now c.args.shape (λ v. apart (sym c.if-is_value_shape.false ∙ c.is_value_shape.ensures.1 v))

pub is_all_sound-requires-clause-value : goal.is_all_sound-requires-clause-value
is_all_sound-requires-clause-value c = c.is_value_shape.ensures.0 c.if-is_value_shape.true
