use Rattle.sm_model.specs.Reaching.{IsMarked}
use Rattle.sm_reference_rules.specs.steps.Finding.{PassedTo}
use Rattle.sm_reference_rules.proofs.finite.next_wanted.Given as goal

abbrev pub invariant-loop-place : goal.invariant-loop-place
invariant-loop-place l = PassedTo l.graph (IsMarked l.marks) l.members l.from l.place
