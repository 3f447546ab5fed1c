use Rattle.std.proofs.Common.{map}
use Rattle.sm_model.specs.GraphView.{maps_of}
use Rattle.sm_shapes.specs.TableView.{member_data}
use Rattle.sm_compile.specs.steps.Numbered.{AreMemberRows, numbering}
use Rattle.sm_compile.proofs.members.member_rows.Given as goal

abbrev pub invariant-loop-home_row : goal.invariant-loop-home_row
invariant-loop-home_row l =
    AreMemberRows (maps_of l.parts.graph.now) l.parts.patterns.now (numbering l.parts.graph.now l.parts.shapes.now) l.home_row
    (map member_data l.rows.items)
