-- What a route of the code stands for.
use Rattle.sm_uri.specs.UriPattern.{uri_said}
use Rattle.sm_routes.specs.Routes.{RouteData}
use Rattle.sm_routes.specs.declared.route.Route.{Route}

abbrev pub route_data : Route → RouteData
route_data r = record { method = r.method; uri = uri_said r.uri; name = r.name; operation = r.operation }
