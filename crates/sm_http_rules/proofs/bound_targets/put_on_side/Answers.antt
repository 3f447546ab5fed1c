use Rattle.std.proofs.Common.{sym, ◌∙◌, arith}
use Rattle.sm_model.specs.GraphView.{maps_of}
use Rattle.sm_model.specs.Reaching.{id_of_number}
use Rattle.sm_model.proofs.Worklist.{apart}
use Rattle.sm_http_traits.specs.Bindings.{side_said}
use Rattle.sm_http_rules.proofs.BoundTold.{no_side, side_marks, side_put}
use Rattle.sm_http_rules.proofs.bound_targets.put_on_side.Goals as goal

pub is_on-requires-clause-inputs : goal.is_on-requires-clause-inputs
is_on-requires-clause-inputs c = omega (arith, c.requires.sides.are_inputs.whole, c.requires.shape)

pub is_on-requires-clause-outputs : goal.is_on-requires-clause-outputs
is_on-requires-clause-outputs c = omega (arith, c.requires.sides.are_outputs.whole, c.requires.shape)

pub is_on-requires-clause-errors : goal.is_on-requires-clause-errors
is_on-requires-clause-errors c = omega (arith, c.requires.sides.are_errors.whole, c.requires.shape)

pub put_of_members-requires-clause-leading : goal.put_of_members-requires-clause-leading
put_of_members-requires-clause-leading c = c.requires.leading.whole

pub returns-in_ok-put_of_members : goal.returns-in_ok-put_of_members
returns-in_ok-put_of_members c =
    let g = c.args.graph.now in
    let marks = side_marks g c.args.rule.now.sides.now c.requires.sides c.args.side in
    side_put g c.args.rule.now.leading.now c.requires.leading c.args.side c.args.shape c.requires.own c.members_of.result.now
    c.members_of.ensures.numbers c.members_of.ensures.ids
    ((marks.marked c.args.shape).0 (sym c.is_on.ensures ∙ c.if-is_on.true)).1 c.args.events.now.items c.put_of_members.new.events.items
    c.in_ok-put_of_members.ensures

pub returns-else-is_on : goal.returns-else-is_on
returns-else-is_on c =
    let g = c.args.graph.now in
    let marks = side_marks g c.args.rule.now.sides.now c.requires.sides c.args.side in
    no_side (maps_of g) (side_said c.args.side) (id_of_number g c.args.shape)
    (λ h. apart (sym (sym c.is_on.ensures ∙ c.if-is_on.false) ∙ (marks.marked c.args.shape).1 (c.requires.shape, h)))
    c.args.events.now.items
