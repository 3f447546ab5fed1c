use Rattle.std.proofs.Common.{sym, ◌∙◌, arith}
use Rattle.sm_http_rules.proofs.WireNamesTold.{headers_put, no_headers}
use Rattle.sm_http_rules.proofs.wire_names.put_headers.Goals as goal

pub is_on_side-requires-clause-inputs : goal.is_on_side-requires-clause-inputs
is_on_side-requires-clause-inputs c = omega (arith, c.requires.sides.are_inputs.whole, c.requires.shape)

pub is_on_side-requires-clause-outputs : goal.is_on_side-requires-clause-outputs
is_on_side-requires-clause-outputs c = omega (arith, c.requires.sides.are_outputs.whole, c.requires.shape)

pub is_on_side-requires-clause-errors : goal.is_on_side-requires-clause-errors
is_on_side-requires-clause-errors c = omega (arith, c.requires.sides.are_errors.whole, c.requires.shape)

pub returns-in_ok-put_prefixed : goal.returns-in_ok-put_prefixed
returns-in_ok-put_prefixed c =
    headers_put c.args.graph.now c.args.sides.now c.requires.sides c.args.shape (sym c.is_on_side.ensures ∙ c.if-is_on_side.true)
    c.args.events.now.items c.put_again.new.events.items c.put_prefixed.new.events.items c.in_ok-put_again.ensures
    c.in_ok-put_prefixed.ensures

pub returns-else-is_on_side : goal.returns-else-is_on_side
returns-else-is_on_side c =
    no_headers c.args.graph.now c.args.sides.now c.requires.sides c.args.shape c.requires.shape
    (sym c.is_on_side.ensures ∙ c.if-is_on_side.false) c.args.events.now.items
