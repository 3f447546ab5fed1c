use Rattle.std.proofs.Common.{◌≡◌, ◌++◌, drop, map}
use Rattle.sm_shapes.specs.TableView.{member_data}
use Rattle.sm_excerpts.proofs.copies.copy_members.Given as goal

abbrev pub invariant-loop-row : goal.invariant-loop-row
invariant-loop-row l = map member_data l.copies.items ++ map member_data (drop l.row-index l.rows) ≡ map member_data l.rows
