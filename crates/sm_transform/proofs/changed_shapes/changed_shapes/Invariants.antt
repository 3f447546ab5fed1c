use Rattle.sm_model.specs.GivenView.{given_view}
use Rattle.sm_transform.specs.steps.Changing.{AreShapesAfter}
use Rattle.sm_transform.proofs.changed_shapes.changed_shapes.Given as goal

abbrev pub invariant-loop-number : goal.invariant-loop-number
invariant-loop-number g l = AreShapesAfter (g.C.ChangesIds.after l.change) l.graph l.number (given_view l.shapes.items)
