use Rattle.std.proofs.Common.{sym, ◌∙◌}
use Rattle.sm_model.specs.GraphView.{maps_of}
use Rattle.sm_model.specs.Reaching.{id_of_number}
use Rattle.sm_http_rules.proofs.WireNamesTold.{names_put, no_names}
use Rattle.sm_http_rules.proofs.wire_names.NamedAtEach.put_at.Goals as goal

pub put_names-requires-clause-own : goal.put_names-requires-clause-own
put_names-requires-clause-own c = sym c.is_own_shape.ensures ∙ c.if-is_own_shape.true

pub returns-in_ok-put_names : goal.returns-in_ok-put_names
returns-in_ok-put_names c =
    names_put (maps_of c.args.graph.now) (id_of_number c.args.graph.now c.args.number) c.args.events.now.items
    c.put_names.new.events.items c.in_ok-put_names.ensures

pub returns-else-is_own_shape : goal.returns-else-is_own_shape
returns-else-is_own_shape c =
    no_names (maps_of c.args.graph.now) (id_of_number c.args.graph.now c.args.number) (sym c.is_own_shape.ensures ∙ c.if-is_own_shape.false)
    c.args.events.now.items
