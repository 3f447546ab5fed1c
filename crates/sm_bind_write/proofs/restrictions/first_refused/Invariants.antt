use Rattle.std.proofs.Common.{◌≡◌, ◌<◌, drop}
use Rattle.std.specs.List.{AllByRecursion}
use Rattle.sm_shapes.specs.TableData.{member_count}
use Rattle.sm_shapes.specs.TableView.{table_data}
use Rattle.sm_bind.specs.BindingsView.{bound_side}
use Rattle.sm_bind_write.specs.Restrictions.{first_refused, is_refused_on}
use Rattle.sm_bind_write.proofs.restrictions.first_refused.Given as goal

abbrev pub invariant-loop-member : goal.invariant-loop-member
invariant-loop-member l = record {
  rest : first_refused (is_refused_on (table_data l.table) (bound_side l.side)) (drop l.member-index l.members)
      ≡ first_refused (is_refused_on (table_data l.table) (bound_side l.side)) l.members;
  inside : AllByRecursion (λ k. k < member_count (table_data l.table)) (drop l.member-index l.members);
}
