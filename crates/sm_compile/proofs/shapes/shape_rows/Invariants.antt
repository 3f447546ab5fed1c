use Rattle.std.proofs.Common.{◌≡◌, length, map}
use Rattle.sm_model.specs.GraphView.{maps_of}
use Rattle.sm_shapes.specs.TableView.{member_data, shape_data}
use Rattle.sm_compile.specs.steps.Numbered.{EachAt, IsShapeRow, first_of_shape, numbering}
use Rattle.sm_compile.proofs.shapes.shape_rows.Given as goal

abbrev pub invariant-loop-row : goal.invariant-loop-row
invariant-loop-row l = record {
  first : l.first ≡ first_of_shape (maps_of l.parts.graph.now) (numbering l.parts.graph.now l.parts.shapes.now).shapes l.row;
  long : length l.rows.items ≡ l.row;
  each : EachAt (IsShapeRow (maps_of l.parts.graph.now) l.parts.patterns.now (numbering l.parts.graph.now l.parts.shapes.now)
      (map member_data l.members)) (map shape_data l.rows.items);
}
