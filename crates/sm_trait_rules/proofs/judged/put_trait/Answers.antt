use Rattle.std.proofs.Common.{◌≡◌, ℕ, Bool, List, ap, subst, ◌∙◌}
use Rattle.sm_tree.specs.View.{node_of}
use Rattle.sm_model.specs.Reaching.{id_of_number}
use Rattle.sm_rules.specs.RuleEvents.{Puts, rule_event}
use Rattle.sm_rules.specs.declared.rule.Rule.{Rule}
use Rattle.sm_passes.specs.Putting.{IsWhere}
use Rattle.sm_trait_rules.proofs.judged.put_trait.Goals as goal

pub returns : goal.returns
returns g c =
    let id = id_of_number c.args.graph.now c.args.number in
    let name : c.as_str.result.now ≡ c.args.pair.now.0 = c.as_str.ensures.bytes in
    let again : c.as_str-2.result.now ≡ c.args.pair.now.0 = c.as_str-2.ensures.bytes in
    let wrong = c.is_wrong-wrong.ensures
    ∙ ap (λ (t : List ℕ). g.J.Judge.wrong c.args.judge.now t c.args.at (node_of c.args.pair.now.1)) name in
    let told = λ (r : Rule) (w : Bool) (t : List ℕ). Puts (IsWhere w (rule_event r id t)) c.args.events.now.items
    c.put_if.new.events.items in
    subst (λ r. told r (g.J.Judge.wrong c.args.judge.now c.args.pair.now.0 c.args.at (node_of c.args.pair.now.1)) c.args.pair.now.0)
    c.rule.ensures
    (subst (λ w. told c.rule.result w c.args.pair.now.0) wrong
    (subst (λ t. told c.rule.result c.is_wrong-wrong.result t) again c.in_ok-put_if.ensures))
