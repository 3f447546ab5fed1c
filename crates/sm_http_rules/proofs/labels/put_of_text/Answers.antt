use Rattle.std.proofs.Common.{Err, subst}
use Rattle.sm_model.specs.GraphView.{maps_of}
use Rattle.sm_model.specs.Reaching.{id_of_number}
use Rattle.sm_uri.specs.UriPattern.{ParsesUri, uri_said}
use Rattle.sm_rules.specs.RuleEvents.{Puts}
use Rattle.sm_http_rules.specs.steps.Labels.{ToldOfUri}
use Rattle.sm_http_rules.proofs.LabelsTold.{no_pattern, pattern_put}
use Rattle.sm_http_rules.proofs.labels.put_of_text.Goals as goal

pub returns-in_ok-put_of_uri-in-Ok : goal.returns-in_ok-put_of_uri-in-Ok
returns-in_ok-put_of_uri-in-Ok c =
    let m = maps_of c.args.graph.now in
    let op = id_of_number c.args.graph.now c.args.link.now.from in
    let input = id_of_number c.args.graph.now c.args.link.now.to in
    pattern_put m op input c.args.text.now c.requires.said (uri_said c.in-Ok.uri) c.in-Ok.ensures c.args.events.now.items
    c.put_of_uri.new.events.items
    (subst (λ ss. Puts (ToldOfUri m op input ss) c.args.events.now.items c.put_of_uri.new.events.items) c.as_slice.ensures.value
    c.in_ok-put_of_uri-in-Ok.ensures)

pub returns-in-Err-Bad : goal.returns-in-Err-Bad
returns-in-Err-Bad c =
    let l = c.args.link.now in
    no_pattern (maps_of c.args.graph.now) (id_of_number c.args.graph.now l.from) (id_of_number c.args.graph.now l.to) c.args.text.now
    c.requires.said (subst (λ r. ParsesUri c.args.text.now (Err r)) c.in-Err-Bad.field-0-is c.in-Err-Bad.ensures).none
    c.args.events.now.items
