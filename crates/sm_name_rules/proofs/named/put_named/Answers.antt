use Rattle.std.proofs.Common.{refl, subst, sym, ◌∙◌}
use Rattle.std.proofs.lemmas.Result.{on_ok_weaker}
use Rattle.sm_name_rules.specs.steps.Naming.{IsKeyBy, MoreBy, tree_in}
use Rattle.sm_name_rules.proofs.named.put_named.Goals as goal

pub returns-then-is_named : goal.returns-then-is_named
returns-then-is_named c =
    on_ok_weaker c.push_named.result
    (λ h. subst (λ b. MoreBy b (IsKeyBy (tree_in c.args.given.now) c.args.graph.now c.args.number) c.args.number c.args.rows.now.items
    c.push_named.new.rows.items) (sym (sym c.is_named.ensures ∙ c.if-is_named.true)) h) c.push_named.ensures

pub returns-else-is_named : goal.returns-else-is_named
returns-else-is_named c =
    subst (λ b. MoreBy b (IsKeyBy (tree_in c.args.given.now) c.args.graph.now c.args.number) c.args.number c.args.rows.now.items
    c.args.rows.now.items) (sym (sym c.is_named.ensures ∙ c.if-is_named.false)) refl
