use Rattle.sm_transform.specs.steps.Knowing.{KnowsAt, SomeBelow}
use Rattle.sm_transform.proofs.knowing.is_known_in.Given as goal

abbrev pub invariant-loop-number : goal.invariant-loop-number
invariant-loop-number l = SomeBelow (KnowsAt l.graph l.namespace) l.number → ⊥
