use Rattle.std.proofs.Common.{◌+◌}
use Rattle.sm_shapes.specs.TableView.{table_data}
use Rattle.sm_bind.specs.BindingsView.{bound_side}
use Rattle.sm_bind.proofs.GrowingBodies.{grows_then}
use Rattle.sm_bind.proofs.documents.documents_on.Goals as goal

pub next-requires-clause-growing : goal.next-requires-clause-growing
next-requires-clause-growing c = (table_data c.args.documents, c.loop-shape.invariant)

pub loop-shape-preserved : goal.loop-shape-preserved
loop-shape-preserved c =
    grows_then (table_data c.args.table.now) (bound_side c.args.side) (table_data c.args.documents) c.loop-shape.shape (c.loop-shape.shape + 1)
    c.loop-shape.growing c.in-Ok-next.more c.loop-shape.invariant c.in-Ok-next.ensures
