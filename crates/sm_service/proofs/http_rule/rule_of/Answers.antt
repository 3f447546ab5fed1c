use Rattle.sm_model.specs.GraphView.{maps_of}
use Rattle.sm_model.specs.Reaching.{id_of_number}
use Rattle.sm_uri.specs.UriPattern.{uri_said}
use Rattle.sm_service.proofs.HttpRead.{is_operation, rule_said}
use Rattle.sm_service.proofs.http_rule.rule_of.Goals as goal

pub returns : goal.returns
returns c =
    let g = maps_of c.args.graph.now in
    let id = id_of_number c.args.graph.now c.args.operation in
    rule_said g id (is_operation g id c.requires.fields.method c.requires.fields.method_is)
    (record { method = c.in_ok-method.method; uri = uri_said c.in_ok-uri.uri; code = c.success_code-code.result }) c.in_ok-method.ensures
    c.in_ok-uri.ensures c.success_code-code.ensures
