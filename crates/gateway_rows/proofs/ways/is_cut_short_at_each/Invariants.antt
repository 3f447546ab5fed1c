-- The store has the patterns of the gateway.
use Rattle.sm_shapes.specs.InOrder.{AreStored}
use Rattle.sm_gateway.specs.GatewayView.{gateway_data}
use Rattle.gateway_rows.proofs.ways.is_cut_short_at_each.Given as goal

abbrev pub invariant-loop-call : goal.invariant-loop-call
invariant-loop-call g l = AreStored (gateway_data l.fn.gateway).service.table.patterns (g.P.Patterns.added l.patterns)
