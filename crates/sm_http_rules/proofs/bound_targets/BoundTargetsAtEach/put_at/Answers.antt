use Rattle.std.proofs.Common.{sym, ◌∙◌}
use Rattle.sm_model.specs.GraphView.{maps_of}
use Rattle.sm_model.specs.Reaching.{id_of_number}
use Rattle.sm_http_rules.proofs.BoundTold.{no_events, sides_put}
use Rattle.sm_http_rules.proofs.bound_targets.BoundTargetsAtEach.put_at.Goals as goal

pub put_on_side-requires-clause-own : goal.put_on_side-requires-clause-own
put_on_side-requires-clause-own c = sym c.is_own_shape.ensures ∙ c.if-is_own_shape.true

pub put_on_side-requires-then-is_own_shape-clause-own : goal.put_on_side-requires-then-is_own_shape-clause-own
put_on_side-requires-then-is_own_shape-clause-own c = sym c.is_own_shape.ensures ∙ c.if-is_own_shape.true

pub put_on_side-requires-then-is_own_shape-2-clause-own : goal.put_on_side-requires-then-is_own_shape-2-clause-own
put_on_side-requires-then-is_own_shape-2-clause-own c = sym c.is_own_shape.ensures ∙ c.if-is_own_shape.true

pub returns-in_ok-put_on_side-3 : goal.returns-in_ok-put_on_side-3
returns-in_ok-put_on_side-3 c =
    sides_put (maps_of c.args.graph.now) (id_of_number c.args.graph.now c.args.number) c.args.events.now.items
    c.put_on_side.new.events.items c.put_on_side-then-is_own_shape.new.events.items c.put_on_side-then-is_own_shape-2.new.events.items c.in_ok-put_on_side.ensures
    c.in_ok-put_on_side-2.ensures c.in_ok-put_on_side-3.ensures

pub returns-else-is_own_shape : goal.returns-else-is_own_shape
returns-else-is_own_shape c =
    no_events (maps_of c.args.graph.now) (id_of_number c.args.graph.now c.args.number)
    (sym c.is_own_shape.ensures ∙ c.if-is_own_shape.false) c.args.events.now.items
