use Rattle.std.proofs.Common.{◌≡◌, ℕ, List, Bool, ap, subst, ◌∙◌}
use Rattle.std.specs.Prelude.{is_none}
use Rattle.sm_model.specs.Reaching.{id_of_number}
use Rattle.sm_rules.specs.RuleEvents.{Puts, rule_event}
use Rattle.sm_rules.specs.declared.rule.Rule.TheVariants.{HttpLabels}
use Rattle.sm_passes.specs.Firsts.{number_in}
use Rattle.sm_passes.specs.Putting.{IsWhere}
use Rattle.sm_http_rules.proofs.label_told.put_label.Goals as goal

pub returns : goal.returns
returns c =
    let id = id_of_number c.args.graph.now c.args.operation in
    let named : c.as_str-name.result.now ≡ c.args.row.now.0 = c.as_str-name.ensures.bytes in
    let told = λ (b : Bool) (t : List ℕ). Puts (IsWhere b (rule_event HttpLabels id t)) c.args.events.now.items c.put_if.new.events.items in
    let test = c.is_missing-unbound.ensures ∙ ap is_none (c.first_of.ensures ∙ ap (number_in c.args.by_member.now) named) in
    subst (λ b. told b c.args.row.now.0) test (subst (told c.is_missing-unbound.result) named c.in_ok-put_if.ensures)
