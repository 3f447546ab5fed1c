use Rattle.sm_model.specs.GivenView.{given_view}
use Rattle.sm_transform.specs.steps.Copies.{AreCopiesBelow}
use Rattle.sm_transform.proofs.copies.marked_copies.Given as goal

abbrev pub invariant-loop-number : goal.invariant-loop-number
invariant-loop-number l = AreCopiesBelow l.graph l.marks l.number (given_view l.shapes.items)
