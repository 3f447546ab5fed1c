use Rattle.std.proofs.Common.{◌≡◌, ◌++◌, drop}
use Rattle.std.specs.List.{filter}
use Rattle.sm_shapes.specs.InOrder.{is_needed}
use Rattle.sm_shapes.specs.TableView.{table_data}
use Rattle.codec_bodies.proofs.members.needed_of.Given as goal

abbrev pub invariant-loop-member : goal.invariant-loop-member
invariant-loop-member l = l.all.items ++ filter (is_needed (table_data l.table)) (drop l.member-index l.members)
    ≡ filter (is_needed (table_data l.table)) l.members
