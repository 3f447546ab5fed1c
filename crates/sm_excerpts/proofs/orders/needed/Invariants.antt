use Rattle.std.proofs.Common.{◌≡◌, ◌++◌, drop, map}
use Rattle.std.specs.List.{filter}
use Rattle.sm_shapes.specs.InOrder.{is_needed}
use Rattle.sm_shapes.specs.TableView.{member_data}
use Rattle.sm_excerpts.specs.steps.Rows.{rows_alone}
use Rattle.sm_excerpts.proofs.orders.needed.Given as goal

abbrev pub invariant-loop-number : goal.invariant-loop-number
invariant-loop-number l =
    l.kept.items ++ filter (is_needed (rows_alone (map member_data l.rows))) (drop l.number-index l.numbers)
    ≡ filter (is_needed (rows_alone (map member_data l.rows))) l.numbers
