use Rattle.std.proofs.Common.{◌≡◌, map}
use Rattle.std.specs.List.{filter}
use Rattle.sm_shapes.specs.InOrder.{is_needed}
use Rattle.sm_shapes.specs.TableView.{member_data}
use Rattle.sm_compile.specs.steps.Numbered.{only_members, run}
use Rattle.sm_compile.proofs.orders.needed.Given as goal

abbrev pub invariant-loop-place : goal.invariant-loop-place
invariant-loop-place l = l.numbers.items ≡ filter (is_needed (only_members (map member_data l.rows))) (run l.first l.place)
