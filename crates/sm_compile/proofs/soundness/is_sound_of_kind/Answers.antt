use Rattle.sm_compile.proofs.SoundShapes.{sound_lacks_parts}
use Rattle.sm_compile.proofs.soundness.is_sound_of_kind.Goals as goal

pub returns-else-branch : goal.returns-else-branch
returns-else-branch c =
    sound_lacks_parts c.args.graph.now c.args.shape c.args.kind c.requires.kind c.in_ok-has_parts.field-0 c.in_ok-has_parts.ensures
    c.if-branch.false
