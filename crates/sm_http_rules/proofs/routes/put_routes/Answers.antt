use Rattle.std.proofs.Common.{None, get_or, ℕ, ◌≡◌, subst}
use Rattle.sm_http_rules.proofs.RoutesTold.{none_told}
use Rattle.sm_http_rules.proofs.routes.put_routes.Goals as goal

pub returns-then-not-has_any : goal.returns-then-not-has_any
returns-then-not-has_any c =
    none_told c.args.graph.now c.in_ok-firsts.firsts.items c.in_ok-firsts.ensures
    (subst (λ fs. (k : ℕ) → get_or fs k None ≡ None) c.as_slice.ensures.value (c.has_any.ensures c.if-not-has_any.true))
    c.args.events.now.items
