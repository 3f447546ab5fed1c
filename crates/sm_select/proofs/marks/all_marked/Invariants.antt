use Rattle.sm_model.specs.Reaching.{AreMarks}
use Rattle.sm_select.proofs.marks.all_marked.Given as goal

abbrev pub invariant-loop : goal.invariant-loop
invariant-loop l = AreMarks l.counter (λ k. Unit {0}) l.marks.items
