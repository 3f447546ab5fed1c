use Rattle.std.proofs.Common.{◌≡◌, drop}
use Rattle.sm_shapes.specs.TableView.{table_data}
use Rattle.sm_bind_write.specs.Restrictions.{refused_in_errors}
use Rattle.sm_bind_write.proofs.restrictions.in_errors.Given as goal

abbrev pub invariant-loop-place : goal.invariant-loop-place
invariant-loop-place l = refused_in_errors (table_data l.table) (drop l.place l.errors) ≡ refused_in_errors (table_data l.table) l.errors
