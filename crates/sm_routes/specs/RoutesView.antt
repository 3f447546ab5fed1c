-- What the routes of the code stand for.
use Rattle.std.specs.Prelude.{List, map}
use Rattle.sm_routes.specs.RouteView.{route_data}
use Rattle.sm_routes.specs.Routes.{RouteData}
use Rattle.sm_routes.specs.declared.routes.Routes.{Routes}

abbrev pub routes_view : Routes → List RouteData
routes_view rs = map route_data rs.rows.items
