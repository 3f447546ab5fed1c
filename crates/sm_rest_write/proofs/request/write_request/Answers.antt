use Rattle.std.proofs.Common.{◌∙◌}
use Rattle.std.proofs.lemmas.Result.{IfOk-weaker}
use Rattle.sm_shapes.specs.ValueView.{val_of}
use Rattle.sm_rest.specs.service.ServiceView.{http_data, service_data}
use Rattle.sm_rest.specs.messages.Goals.{goal_of, the_input}
use Rattle.sm_rest.specs.bind.BoundView.{bound_of}
use Rattle.sm_rest_write.proofs.PlacesBound.{carried_there, fits_there, shape_there, shaped_there, structure_there}
use Rattle.sm_rest_write.proofs.RestMessages.{request_is}
use Rattle.sm_rest_write.proofs.request.write_request.Goals as goal

pub outlined-requires-clause-shaped : goal.outlined-requires-clause-shaped
outlined-requires-clause-shaped c =
    let s = service_data c.args.service.now in
    let g = goal_of c.args.operation the_input in
    let b = bound_of c.input_place-place.result in
    shaped_there s g b c.input_place-place.ensures c.requires.servable

pub outlined-requires-clause-shape : goal.outlined-requires-clause-shape
outlined-requires-clause-shape c =
    let s = service_data c.args.service.now in
    let g = goal_of c.args.operation the_input in
    let b = bound_of c.input_place-place.result in
    shape_there s g b c.input_place-place.ensures c.requires.servable (c.requires.number, tt)

pub outlined-requires-clause-structure : goal.outlined-requires-clause-structure
outlined-requires-clause-structure c =
    let s = service_data c.args.service.now in
    let g = goal_of c.args.operation the_input in
    let b = bound_of c.input_place-place.result in
    structure_there s g b c.input_place-place.ensures c.requires.servable (c.requires.number, tt)

pub outlined-requires-clause-fits : goal.outlined-requires-clause-fits
outlined-requires-clause-fits c =
    let s = service_data c.args.service.now in
    let g = goal_of c.args.operation the_input in
    let b = bound_of c.input_place-place.result in
    fits_there s g b (val_of c.args.value.now) c.input_place-place.ensures c.requires.fits

pub outlined-requires-clause-carried : goal.outlined-requires-clause-carried
outlined-requires-clause-carried c =
    let s = service_data c.args.service.now in
    let g = goal_of c.args.operation the_input in
    let b = bound_of c.input_place-place.result in
    carried_there s g b (val_of c.args.value.now) c.input_place-place.ensures c.requires.carried

pub returns : goal.returns
returns c =
    let s = service_data c.args.service.now in
    IfOk-weaker c.request_of.result _ _
    (λ message made. made ∙ request_is s c.args.operation (http_data c.rule_of.result.now) c.args.host.now (val_of c.args.value.now)
    (bound_of c.input_place-place.result) c.in_ok-outline.outline c.input_place-place.ensures c.rule_of.ensures c.in_ok-outline.ensures)
    c.request_of.ensures
