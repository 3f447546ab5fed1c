use Rattle.std.proofs.Common.{Err, ap, subst, ◌∙◌}
use Rattle.sm_model.specs.GraphView.{maps_of}
use Rattle.sm_model.specs.Reaching.{id_of_number}
use Rattle.sm_uri.specs.UriPattern.{ParsesUri, uri_said}
use Rattle.sm_http_rules.specs.steps.Routes.{key_of}
use Rattle.sm_http_rules.proofs.RouteKeys.{key_said, no_pattern_key}
use Rattle.sm_http_rules.proofs.route_keys.key_of_text.Goals as goal

pub returns-in_ok-key-in-Ok : goal.returns-in_ok-key-in-Ok
returns-in_ok-key-in-Ok c =
    let u = uri_said c.in-Ok.uri in
    key_said (maps_of c.args.graph.now) (id_of_number c.args.graph.now c.args.number) c.args.text.now c.requires.said u c.in-Ok.ensures
    c.in_ok-key-in-Ok.key (c.in_ok-key-in-Ok.ensures ∙ ap (key_of u) c.method_of.ensures)

pub returns-in-Err-Bad : goal.returns-in-Err-Bad
returns-in-Err-Bad c =
    no_pattern_key (maps_of c.args.graph.now) (id_of_number c.args.graph.now c.args.number) c.args.text.now c.requires.said
    (subst (λ r. ParsesUri c.args.text.now (Err r)) c.in-Err-Bad.field-0-is c.in-Err-Bad.ensures).none
