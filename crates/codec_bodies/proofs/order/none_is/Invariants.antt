use Rattle.std.proofs.Common.{map, drop}
use Rattle.sm_shapes.specs.Names.{NoneIs}
use Rattle.sm_shapes.specs.TableView.{table_data}
use Rattle.codec_bodies.specs.Checked.{name_by}
use Rattle.codec_bodies.proofs.order.none_is.Given as goal

abbrev pub invariant-loop-member : goal.invariant-loop-member
invariant-loop-member l = NoneIs l.name (map (name_by l.json (table_data l.table)) (drop l.member-index l.members))
    → NoneIs l.name (map (name_by l.json (table_data l.table)) l.members)
