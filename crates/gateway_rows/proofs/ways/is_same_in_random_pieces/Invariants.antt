-- The store has the patterns of the gateway.
use Rattle.sm_shapes.specs.InOrder.{AreStored}
use Rattle.sm_gateway.specs.GatewayView.{gateway_data}
use Rattle.gateway_rows.proofs.ways.is_same_in_random_pieces.Given as goal

abbrev pub invariant-loop-seed : goal.invariant-loop-seed
invariant-loop-seed g l = AreStored (gateway_data l.fn.gateway).service.table.patterns (g.P.Patterns.added l.patterns)
