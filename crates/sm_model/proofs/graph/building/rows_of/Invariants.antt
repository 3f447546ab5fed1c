use Rattle.std.specs.Vec.Iter.{into_iter_items}
use Rattle.sm_model.specs.GivenView.{given_view}
use Rattle.sm_model.specs.steps.Blocks.{AreRowsUpTo}
use Rattle.sm_model.proofs.graph.building.rows_of.Given as goal

abbrev pub invariant-loop-shape : goal.invariant-loop-shape
invariant-loop-shape l =
    AreRowsUpTo (given_view (into_iter_items l.initial.shape-iterator)) (given_view (into_iter_items l.shape-iterator)) l.rows.items
