use Rattle.sm_transform.specs.steps.Steps.{AreAllBelow}
use Rattle.sm_transform.proofs.numbers.numbers_below.Given as goal

abbrev pub invariant-loop-number : goal.invariant-loop-number
invariant-loop-number l = AreAllBelow l.number l.numbers.items
