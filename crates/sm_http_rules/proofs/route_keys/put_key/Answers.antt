use Rattle.std.proofs.Common.{subst}
use Rattle.sm_model.specs.GraphView.{maps_of}
use Rattle.sm_model.specs.Reaching.{id_of_number}
use Rattle.sm_http_rules.specs.steps.Routes.{IsKeyAt, IsRouteKey}
use Rattle.sm_http_rules.proofs.RouteKeys.{one_key}
use Rattle.sm_http_rules.proofs.SameRouteRows.{none_joined, row_joined}
use Rattle.sm_http_rules.proofs.route_keys.put_key.Goals as goal

pub returns-in_ok-push-in-Some : goal.returns-in_ok-push-in-Some
returns-in_ok-push-in-Some c =
    let m = maps_of c.args.graph.now in
    let n = c.args.number in
    row_joined (λ k key. IsRouteKey m (id_of_number c.args.graph.now k) key) n c.in-Some.key c.args.rows.now.items c.push.new.self.items
    (one_key m (id_of_number c.args.graph.now n)) (subst (IsKeyAt c.args.graph.now n) c.in-Some.is c.in_ok-key.ensures)
    c.in_ok-push-in-Some.ensures.items

pub returns-in-None : goal.returns-in-None
returns-in-None c =
    none_joined (λ k key. IsRouteKey (maps_of c.args.graph.now) (id_of_number c.args.graph.now k) key) c.args.number c.args.rows.now.items
    (subst (IsKeyAt c.args.graph.now c.args.number) c.in-None.is c.in_ok-key.ensures)
