use Rattle.std.proofs.Common.{◌≡◌, [], sym, subst, ◌∙◌}
use Rattle.std.specs.Option.{option_map}
use Rattle.std.proofs.lemmas.Result.{IfOk-weaker}
use Rattle.sm_shapes.specs.Fitting.{Fits, any_text}
use Rattle.sm_shapes.specs.ValueView.{val_of}
use Rattle.sm_rest.specs.service.ServiceView.{service_data}
use Rattle.sm_rest.specs.messages.Answers.{reply_role}
use Rattle.sm_rest.specs.messages.Goals.{goal_of}
use Rattle.sm_rest.specs.messages.TreeBodies.{goal_place}
use Rattle.sm_rest.specs.bind.BoundView.{bound_of}
use Rattle.sm_rest.specs.bind_read.BoundGoals.{bound_at}
use Rattle.sm_rest.specs.bind_write.CarriedParts.{uncarried_parts}
use Rattle.sm_rest_write.proofs.PlacesBound.{carried_there, fits_there, shape_there, shaped_there, structure_there}
use Rattle.sm_rest_write.proofs.RestMessages.{response_is}
use Rattle.sm_rest_write.proofs.response.write_response.Goals as goal

pub outlined-requires-clause-shaped : goal.outlined-requires-clause-shaped
outlined-requires-clause-shaped c =
    let s = service_data c.args.service.now in
    let g = goal_of c.args.operation (reply_role c.args.reply.now) in
    let b = bound_of c.reply_place-place.result in
    shaped_there s g b c.reply_place-place.ensures c.requires.servable

pub outlined-requires-clause-shape : goal.outlined-requires-clause-shape
outlined-requires-clause-shape c =
    let s = service_data c.args.service.now in
    let g = goal_of c.args.operation (reply_role c.args.reply.now) in
    let b = bound_of c.reply_place-place.result in
    shape_there s g b c.reply_place-place.ensures c.requires.servable c.requires.goal

pub outlined-requires-clause-structure : goal.outlined-requires-clause-structure
outlined-requires-clause-structure c =
    let s = service_data c.args.service.now in
    let g = goal_of c.args.operation (reply_role c.args.reply.now) in
    let b = bound_of c.reply_place-place.result in
    structure_there s g b c.reply_place-place.ensures c.requires.servable c.requires.goal

pub outlined-requires-clause-fits : goal.outlined-requires-clause-fits
outlined-requires-clause-fits c =
    let s = service_data c.args.service.now in
    let g = goal_of c.args.operation (reply_role c.args.reply.now) in
    let b = bound_of c.reply_place-place.result in
    fits_there s g b (val_of c.value_in.result.now) c.reply_place-place.ensures (subst (λ v. Fits s.table any_text (goal_place s g) v) (sym c.value_in.ensures) c.requires.fits)

pub outlined-requires-clause-carried : goal.outlined-requires-clause-carried
outlined-requires-clause-carried c =
    let s = service_data c.args.service.now in
    let g = goal_of c.args.operation (reply_role c.args.reply.now) in
    let b = bound_of c.reply_place-place.result in
    carried_there s g b (val_of c.value_in.result.now) c.reply_place-place.ensures (subst (λ v. uncarried_parts (bound_at s g) v ≡ []) (sym c.value_in.ensures) c.requires.carried)

pub returns : goal.returns
returns c = λ host.
    let s = service_data c.args.service.now in
    IfOk-weaker c.response_of.result _ _
    (λ message made. made ∙ response_is s c.args.operation c.args.reply.now host (option_map (λ name. name.now) c.told_of.result) c.usual_status-usual.result
    (val_of c.value_in.result.now) (bound_of c.reply_place-place.result) c.in_ok-outline.outline c.reply_place-place.ensures
    c.told_of.ensures c.usual_status-usual.ensures c.value_in.ensures c.in_ok-outline.ensures)
    c.response_of.ensures
