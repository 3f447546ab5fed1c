use Rattle.std.proofs.Common.{subst}
use Rattle.sm_routes.specs.Routes.{IsRouted}
use Rattle.sm_routes.specs.RoutesView.{routes_view}
use Rattle.sm_rest_heads.proofs.RoutesAsked.{routed_asked}
use Rattle.sm_rest_heads.proofs.asked.operation_asked.Goals as goal

pub returns-in-Request : goal.returns-in-Request
returns-in-Request c = λ s same.
    let rs = routes_view c.args.routes.now in
    let method = c.in-Request.method in
    let target = c.in-Request.target in
    let found = c.find.result in
    let told : IsRouted rs method c.as_str-in-Request.result.now found =
    subst (λ m. IsRouted rs m c.as_str-in-Request.result.now found) c.as_str.ensures.bytes c.find.ensures
    in
    routed_asked s c.args.head.now method target rs found same c.in-Request.is
    (subst (λ a. IsRouted rs method a found) c.as_str-in-Request.ensures.bytes told)
