use Rattle.std.proofs.Common.{map, drop}
use Rattle.sm_shapes.specs.Names.{AllDiffer}
use Rattle.sm_shapes.specs.TableView.{table_data}
use Rattle.codec_bodies.specs.Checked.{name_by}
use Rattle.codec_bodies.proofs.order.names_differ.Given as goal

abbrev pub invariant-loop-place : goal.invariant-loop-place
invariant-loop-place l = AllDiffer (map (name_by l.json (table_data l.table)) (drop l.place l.members))
    → AllDiffer (map (name_by l.json (table_data l.table)) l.members)
