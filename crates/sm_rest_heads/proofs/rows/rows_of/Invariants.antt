use Rattle.std.proofs.Common.{◌≡◌, ◌++◌, drop, map}
use Rattle.sm_routes.specs.RouteView.{route_data}
use Rattle.sm_bind.specs.service.ServiceView.{operation_data}
use Rattle.sm_rest_heads.specs.RestRoutes.{routes_from}
use Rattle.sm_rest_heads.proofs.rows.rows_of.Given as goal

abbrev pub invariant-loop-place : goal.invariant-loop-place
invariant-loop-place l = record {
  rows : map route_data l.rows.items ++ routes_from l.place (map operation_data (drop l.place l.operations))
      ≡ routes_from 0 (map operation_data l.operations);
}
