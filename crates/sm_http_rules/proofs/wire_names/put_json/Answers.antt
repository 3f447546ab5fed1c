use Rattle.std.proofs.Common.{sym, ap, ◌∙◌}
use Rattle.sm_model.specs.GraphView.{maps_of}
use Rattle.sm_model.specs.Reaching.{id_of_number}
use Rattle.sm_http_rules.specs.steps.WireNames.{is_named}
use Rattle.sm_http_rules.proofs.WireNamesTold.{json_put, no_json}
use Rattle.sm_http_rules.proofs.wire_names.put_json.Goals as goal

pub returns-in_ok-put_again : goal.returns-in_ok-put_again
returns-in_ok-put_again c =
    json_put (maps_of c.args.graph.now) (id_of_number c.args.graph.now c.args.shape)
    (ap is_named (sym c.kind_of.ensures) ∙ sym c.is_named.ensures ∙ c.if-is_named.true) c.args.events.now.items
    c.put_again.new.events.items c.in_ok-put_again.ensures

pub returns-else-is_named : goal.returns-else-is_named
returns-else-is_named c =
    no_json (maps_of c.args.graph.now) (id_of_number c.args.graph.now c.args.shape)
    (ap is_named (sym c.kind_of.ensures) ∙ sym c.is_named.ensures ∙ c.if-is_named.false) c.args.events.now.items
