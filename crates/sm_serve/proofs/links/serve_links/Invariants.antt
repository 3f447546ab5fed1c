-- So many links were served; the store is as it was, and no count of the doors fell.
use Rattle.std.proofs.Common.{◌≡◌, ◌≤◌}
use Rattle.sm_asked_gateway.specs.gateway.GatewayView.{gateway_data}
use Rattle.sm_serve.specs.Links.{HasServed}
use Rattle.sm_serve.proofs.links.serve_links.Given as goal

abbrev pub invariant-loop-served : goal.invariant-loop-served
invariant-loop-served g l = record {
  within : l.served ≤ l.count;
  served : HasServed (gateway_data l.gateway) g.P.Patterns.test l.short l.served (g.D.Doors.seen l.fn.doors) (g.D.Doors.seen l.doors);
  later : g.D.Doors.faults l.fn.doors ≤ g.D.Doors.faults l.doors;
  added : g.P.Patterns.added l.patterns ≡ g.P.Patterns.added l.fn.patterns;
  refused : g.P.Patterns.refused l.patterns ≡ g.P.Patterns.refused l.fn.patterns;
  refusals : g.P.Patterns.refusals l.patterns ≡ g.P.Patterns.refusals l.fn.patterns;
}
