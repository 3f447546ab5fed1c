use Rattle.std.proofs.Common.{◌≡◌, FitsSigned, ap, of_z, rules, subst, to_z, to_z-of_z, w64, ◌∙◌}
use Rattle.std.specs.Fmt.{signed_decimal}
use Rattle.sm_model.specs.GraphView.{maps_of}
use Rattle.sm_model.specs.Reaching.{id_of_number}
use Rattle.sm_rules.specs.RuleEvents.{Puts, rule_event}
use Rattle.sm_rules.specs.declared.rule.Rule.TheVariants.{HttpCode}
use Rattle.sm_http_rules.specs.steps.Codes.{is_wrong_code}
use Rattle.sm_passes.specs.Putting.{IsWhere}
use Rattle.sm_http_rules.proofs.HttpCodes.{code_put, no_code}
use Rattle.sm_http_rules.proofs.codes.put_code.Goals as goal

pub returns-in_ok-put_number_if-in-Some : goal.returns-in_ok-put_number_if-in-Some
returns-in_ok-put_number_if-in-Some c =
    let id = id_of_number c.args.graph.now c.args.number in
    let fits : FitsSigned w64 c.in-Some.code = search rules in
    let back : to_z w64 (of_z w64 c.in-Some.code) ≡ c.in-Some.code = to_z-of_z fits in
    code_put (maps_of c.args.graph.now) id c.args.bodied c.requires.bodied c.in-Some.code c.in-Some.ensures c.args.events.now.items
    c.put_number_if.new.events.items
    (subst (λ w. Puts (IsWhere w (rule_event HttpCode id (signed_decimal c.in-Some.code))) c.args.events.now.items
    c.put_number_if.new.events.items) (c.is_wrong_code-wrong.ensures ∙ ap (is_wrong_code c.args.bodied) back)
    (subst (λ z. Puts (IsWhere c.is_wrong_code-wrong.result (rule_event HttpCode id (signed_decimal z))) c.args.events.now.items
    c.put_number_if.new.events.items) back c.in_ok-put_number_if-in-Some.ensures))

pub returns-in-None : goal.returns-in-None
returns-in-None c =
    no_code (maps_of c.args.graph.now) (id_of_number c.args.graph.now c.args.number) c.in-None.ensures c.args.events.now.items
