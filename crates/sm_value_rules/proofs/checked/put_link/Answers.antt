use Rattle.std.proofs.Common.{◌++◌, ◌∷◌, [], subst, sym}
use Rattle.std.specs.Prelude.{MatchBool}
use Rattle.sm_value_rules.specs.steps.Checking.{AreOfValues, IsOfValues}
use Rattle.sm_value_rules.proofs.CheckedMarks.{other_more, value_more}
use Rattle.sm_value_rules.proofs.checked.put_link.Goals as goal

pub returns-in_ok-push : goal.returns-in_ok-push
returns-in_ok-push c all are =
    subst (AreOfValues (all ++ c.args.link.now ∷ [])) (sym c.in_ok-push.ensures.items)
    (value_more all c.args.links.now.items c.args.link.now are
    (subst (λ b. MatchBool b (IsOfValues c.args.link.now.relation) (IsOfValues c.args.link.now.relation → ⊥)) c.if-is_of_values.true
    c.is_of_values.ensures))

pub returns-else-is_of_values : goal.returns-else-is_of_values
returns-else-is_of_values c all are = other_more all c.args.links.now.items c.args.link.now are
    (subst (λ b. MatchBool b (IsOfValues c.args.link.now.relation) (IsOfValues c.args.link.now.relation → ⊥)) c.if-is_of_values.false
    c.is_of_values.ensures)
