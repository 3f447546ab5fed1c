use Rattle.std.proofs.Common.{◌≡◌, ◌+◌, ◌≤◌, drop}
use Rattle.sm_shapes.specs.InOrder.{defaults_among}
use Rattle.sm_shapes.specs.TableView.{table_data}
use Rattle.sm_shapes.proofs.tables.Table.defaults_among.Given as goal

abbrev pub invariant-loop-member : goal.invariant-loop-member
invariant-loop-member l = record {
  counted : l.count + defaults_among (table_data l.self) (drop l.member-index l.members) ≡ defaults_among (table_data l.self) l.members;
  few : l.count ≤ l.member-index;
}
