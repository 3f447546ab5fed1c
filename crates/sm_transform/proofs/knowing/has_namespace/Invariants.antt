use Rattle.sm_transform.specs.steps.Knowing.{IsInNamespaceAt, SomeBelow}
use Rattle.sm_transform.proofs.knowing.has_namespace.Given as goal

abbrev pub invariant-loop-number : goal.invariant-loop-number
invariant-loop-number l = SomeBelow (IsInNamespaceAt l.graph l.namespace) l.number → ⊥
