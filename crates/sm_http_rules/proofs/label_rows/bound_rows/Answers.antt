use Rattle.std.proofs.Common.{◌≡◌, [], rules, subst, sym, ◌∙◌}
use Rattle.sm_http_rules.specs.steps.Labels.{AreBoundOf}
use Rattle.sm_http_rules.proofs.BoundRows.{no_rows, rows_of_input}
use Rattle.sm_http_rules.proofs.label_rows.bound_rows.Goals as goal

pub returns-in_ok-rows : goal.returns-in_ok-rows
returns-in_ok-rows c =
    rows_of_input c.args.graph.now c.args.input (sym c.is_own_shape.ensures ∙ c.if-is_own_shape.true) c.members_of.result.now
    c.members_of.ensures.numbers c.members_of.ensures.ids c.in_ok-rows.rows.items c.in_ok-rows.ensures

pub returns-else-is_own_shape : goal.returns-else-is_own_shape
returns-else-is_own_shape c =
    let empty : c.new.result.items ≡ [] = search rules in
    subst (AreBoundOf c.args.graph.now c.args.input) (sym empty)
    (no_rows c.args.graph.now c.args.input (sym c.is_own_shape.ensures ∙ c.if-is_own_shape.false))
