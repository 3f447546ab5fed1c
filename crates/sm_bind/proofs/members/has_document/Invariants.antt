use Rattle.std.proofs.Common.{◌≡◌, drop}
use Rattle.std.specs.List.{list_any}
use Rattle.sm_shapes.specs.TableView.{table_data}
use Rattle.sm_bind.specs.BindingsView.{bound_side}
use Rattle.sm_bind.proofs.members.has_document.Given as goal
use Rattle.sm_bind.specs.Roles.{is_unbound_on}

abbrev pub invariant-loop-member : goal.invariant-loop-member
invariant-loop-member l =
    list_any (is_unbound_on (table_data l.table) (bound_side l.side)) (drop l.member-index l.members)
    ≡ list_any (is_unbound_on (table_data l.table) (bound_side l.side)) l.members
