use Rattle.std.proofs.Common.{[], ◌<◌, ◌∙◌, arith, length, subst, sym}
use Rattle.std.proofs.lemmas.List.{get_or_read}
use Rattle.sm_http_rules.specs.steps.Labels.{AreBoundOf}
use Rattle.sm_http_rules.proofs.LabelsTold.{input_put, no_input}
use Rattle.sm_http_rules.proofs.labels.put_by_link.Goals as goal

pub put_of_operation-requires-clause-operation : goal.put_of_operation-requires-clause-operation
put_of_operation-requires-clause-operation c = c.requires.link.from

pub put_of_operation-requires-clause-bound : goal.put_of_operation-requires-clause-bound
put_of_operation-requires-clause-bound c =
    let to = c.args.link.now.to in
    let within : to < length c.args.bound.now = omega (arith, c.requires.link.to, c.requires.bound.whole) in
    let here = get_or_read c.args.bound.now to c.index-bound-link.result within c.index-bound-link.is [] in
    subst (AreBoundOf c.args.graph.now to) (sym (c.as_slice.ensures ∙ here)) (c.requires.bound.each to c.requires.link.to)

pub returns-in_ok-put_of_operation : goal.returns-in_ok-put_of_operation
returns-in_ok-put_of_operation c =
    input_put c.args.graph.now c.args.link.now (sym c.is_input.ensures ∙ c.if-is_input.true) c.args.events.now.items
    c.put_of_operation.new.events.items c.in_ok-put_of_operation.ensures

pub returns-else-is_input : goal.returns-else-is_input
returns-else-is_input c = no_input c.args.graph.now c.args.link.now (sym c.is_input.ensures ∙ c.if-is_input.false) c.args.events.now.items
