use Rattle.std.proofs.Common.{◌≡◌, ℕ, List, Bool, subst, ◌∙◌, ap}
use Rattle.sm_model.specs.GraphView.{maps_of}
use Rattle.sm_model.specs.Reaching.{id_of_number}
use Rattle.sm_rules.specs.RuleEvents.{Puts, rule_event}
use Rattle.sm_rules.specs.declared.rule.Rule.TheVariants.{HttpLabels}
use Rattle.sm_passes.specs.Firsts.{number_in}
use Rattle.sm_passes.specs.Putting.{IsWhere}
use Rattle.sm_http_rules.specs.steps.Labels.{is_wrong_member}
use Rattle.sm_http_rules.proofs.label_told.put_member.Goals as goal

pub returns : goal.returns
returns c =
    let id = id_of_number c.args.graph.now c.args.operation in
    let named : c.as_str-name.result.now ≡ c.args.row.now.0 = c.as_str-name.ensures.bytes in
    let told = λ (b : Bool) (t : List ℕ). Puts (IsWhere b (rule_event HttpLabels id t)) c.args.events.now.items c.put_if.new.events.items in
    let label = c.first_of.ensures ∙ ap (number_in c.args.by_label.now) named in
    let greedy = c.first_of-2.ensures ∙ ap (number_in c.args.by_greedy.now) named in
    let test = c.is_wrong_member-wrong.ensures
    ∙ (λ i. is_wrong_member (maps_of c.args.graph.now) (id_of_number c.args.graph.now c.args.row.now.1) (label i) (greedy i)) in
    subst (λ b. told b c.args.row.now.0) test (subst (told c.is_wrong_member-wrong.result) named c.in_ok-put_if.ensures)
