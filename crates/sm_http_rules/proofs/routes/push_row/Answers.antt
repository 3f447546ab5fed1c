use Rattle.std.proofs.Common.{None, Some, get_or, sym, ◌≡◌, ◌∙◌}
use Rattle.std.proofs.lemmas.Option.{none-some, same_Some}
use Rattle.sm_http_rules.proofs.SameRouteRows.{none_joined, row_joined}
use Rattle.sm_http_rules.proofs.routes.push_row.Goals as goal

pub returns-in_ok-push-in-Some : goal.returns-in_ok-push-in-Some
returns-in_ok-push-in-Some c =
    let firsts = c.args.firsts.now in
    row_joined (λ k first. get_or firsts k None ≡ Some first) c.args.number c.in-Some.first c.args.rows.now.items c.push.new.self.items
    (λ a b is also. same_Some a b (sym is ∙ also)) (sym c.first_of.ensures ∙ c.in-Some.is) c.in_ok-push-in-Some.ensures.items

pub returns-in-None : goal.returns-in-None
returns-in-None c =
    let firsts = c.args.firsts.now in
    none_joined (λ k first. get_or firsts k None ≡ Some first) c.args.number c.args.rows.now.items
    (λ first is. none-some first (sym c.in-None.is ∙ c.first_of.ensures ∙ is))
