use Rattle.sm_model.specs.Reaching.{Finds}
use Rattle.sm_select.specs.steps.Reaching.{StepsFrom}
use Rattle.sm_select.proofs.reach.visit_starts.Given as goal

abbrev pub invariant-loop-number : goal.invariant-loop-number
invariant-loop-number l =
    Finds (StepsFrom l.neighbors l.starts l.number) l.initial.marks.items l.initial.found.items l.marks.items l.found.items
