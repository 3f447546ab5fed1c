use Rattle.std.proofs.Common.{◌≡◌, ◌++◌, drop, map}
use Rattle.sm_shapes.specs.TableView.{shape_data}
use Rattle.sm_excerpts.proofs.copies.copy_shapes.Given as goal

abbrev pub invariant-loop-row : goal.invariant-loop-row
invariant-loop-row l = map shape_data l.copies.items ++ map shape_data (drop l.row-index l.rows) ≡ map shape_data l.rows
