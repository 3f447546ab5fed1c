use Rattle.std.proofs.Common.{◌≡◌, ◌++◌, drop}
use Rattle.std.specs.List.{filter}
use Rattle.sm_shapes.specs.TableView.{table_data}
use Rattle.sm_bind.specs.BindingsView.{bound_side}
use Rattle.sm_bind.proofs.members.document_members.Given as goal
use Rattle.sm_bind.specs.Roles.{is_unbound_on}

abbrev pub invariant-loop-member : goal.invariant-loop-member
invariant-loop-member l =
    l.kept.items ++ filter (is_unbound_on (table_data l.table) (bound_side l.side)) (drop l.member-index l.members)
    ≡ filter (is_unbound_on (table_data l.table) (bound_side l.side)) l.members
