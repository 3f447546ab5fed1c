use Rattle.std.proofs.Common.{◌≡◌, ◌+◌, ◌≤◌, length, map}
use Rattle.sm_model.specs.GraphView.{maps_of}
use Rattle.sm_shapes.specs.TableView.{member_data}
use Rattle.sm_compile.specs.steps.Numbered.{EachAt, IsMemberRow, first_of_shape, numbering}
use Rattle.sm_compile.proofs.members.put_members.Given as goal

abbrev pub invariant-loop-member : goal.invariant-loop-member
invariant-loop-member l = record {
  long : length (map member_data l.rows.items)
      ≡ first_of_shape (maps_of l.parts.graph.now) (numbering l.parts.graph.now l.parts.shapes.now).shapes l.home_row + l.member-index;
  within : l.member-index ≤ length l.members;
  each : EachAt (IsMemberRow (maps_of l.parts.graph.now) l.parts.patterns.now (numbering l.parts.graph.now l.parts.shapes.now))
      (map member_data l.rows.items);
}
