use Rattle.sm_compile.specs.steps.Soundness.{AreSoundBelow}
use Rattle.sm_compile.proofs.soundness.all_sound.Given as goal

abbrev pub invariant-loop-number : goal.invariant-loop-number
invariant-loop-number l = AreSoundBelow l.graph l.marks l.number
