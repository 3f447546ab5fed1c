use Rattle.std.proofs.Common.{map, drop}
use Rattle.std.specs.List.Sorted.{IsStrictlySortedBy}
use Rattle.std.specs.Ordering.{nat_cmp}
use Rattle.std.specs.Cmp.Lexicographic.{slice_cmp}
use Rattle.sm_shapes.specs.TableView.{table_data}
use Rattle.codec_bodies.specs.Checked.{name_by}
use Rattle.codec_bodies.proofs.Rising.{with_last}
use Rattle.codec_bodies.proofs.order.names_rise.Given as goal

abbrev pub invariant-loop-member : goal.invariant-loop-member
invariant-loop-member l =
    IsStrictlySortedBy (slice_cmp nat_cmp) (map (name_by l.json (table_data l.table)) (with_last l.last (drop l.member-index l.members)))
    → IsStrictlySortedBy (slice_cmp nat_cmp) (map (name_by l.json (table_data l.table)) l.members)
