use Rattle.std.proofs.Common.{◌∷◌, ◌++◌, [], List, ℕ, ap, sym, ◌∙◌}
use Rattle.sm_http_rules.proofs.BoundRows.{no_name, not_bound, row_put}
use Rattle.sm_http_rules.proofs.label_rows.put_bound_row.Goals as goal

pub returns-then-not-is_bound : goal.returns-then-not-is_bound
returns-then-not-is_bound c =
    not_bound c.args.graph.now c.args.input c.args.member (sym c.is_bound.ensures ∙ c.if-not-is_bound.true) c.args.rows.now.items

pub returns-in_ok-push-in-Some : goal.returns-in_ok-push-in-Some
returns-in_ok-push-in-Some c =
    row_put c.args.graph.now c.args.input c.args.member c.in-Some.name.now (sym c.is_bound.ensures ∙ c.if-not-is_bound.false)
    c.in-Some.ensures c.args.rows.now.items c.push.new.self.items
    (c.in_ok-push-in-Some.ensures.items ∙ ap (λ (t : List ℕ). c.args.rows.now.items ++ (t, c.args.member) ∷ [])
    c.in_ok-name-in-Some.ensures.bytes)

pub returns-in-None : goal.returns-in-None
returns-in-None c = no_name c.args.graph.now c.args.input c.args.member c.in-None.ensures c.args.rows.now.items
