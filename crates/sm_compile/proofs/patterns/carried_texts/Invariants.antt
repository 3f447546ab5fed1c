use Rattle.sm_compile.specs.steps.Carrying.{AreCarriedUpTo}
use Rattle.sm_compile.proofs.patterns.carried_texts.Given as goal

abbrev pub invariant-loop-number : goal.invariant-loop-number
invariant-loop-number l = AreCarriedUpTo l.graph l.marks l.number l.carried
