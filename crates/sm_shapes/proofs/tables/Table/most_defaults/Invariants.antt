use Rattle.std.proofs.Common.{◌≡◌, map, drop, max}
use Rattle.sm_shapes.specs.InOrder.{most_among}
use Rattle.sm_shapes.specs.TableView.{shape_data, table_data}
use Rattle.sm_shapes.proofs.tables.Table.most_defaults.Given as goal

abbrev pub invariant-loop-shape : goal.invariant-loop-shape
invariant-loop-shape l =
    max l.most (most_among (table_data l.self) (map shape_data (drop l.shape-index l.self.shapes.rows.items)))
    ≡ most_among (table_data l.self) (map shape_data l.self.shapes.rows.items)
