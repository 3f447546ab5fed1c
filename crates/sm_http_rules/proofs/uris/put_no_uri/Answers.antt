use Rattle.std.proofs.Common.{[], Err, subst}
use Rattle.sm_model.specs.Reaching.{id_of_number}
use Rattle.sm_uri.specs.UriPattern.{IsUriText, ParsesUri}
use Rattle.sm_rules.specs.RuleEvents.{rule_event}
use Rattle.sm_rules.specs.declared.rule.Rule.TheVariants.{HttpUri}
use Rattle.sm_http_rules.proofs.HttpUris.{unless_held, unless_put}
use Rattle.sm_http_rules.proofs.uris.put_no_uri.Goals as goal

pub returns-in-Ok : goal.returns-in-Ok
returns-in-Ok c =
    unless_held (IsUriText c.args.text.now) (rule_event HttpUri (id_of_number c.args.graph.now c.args.number) []) c.args.events.now.items
    (_, c.in-Ok.ensures)

pub returns-in_ok-put_event-in-Err-Bad : goal.returns-in_ok-put_event-in-Err-Bad
returns-in_ok-put_event-in-Err-Bad c =
    unless_put (IsUriText c.args.text.now) (rule_event HttpUri (id_of_number c.args.graph.now c.args.number) []) c.args.events.now.items
    c.put_event.new.events.items
    (subst (λ r. ParsesUri c.args.text.now (Err r)) c.in-Err-Bad.field-0-is c.in-Err-Bad.ensures).none c.in_ok-put_event-in-Err-Bad.ensures
