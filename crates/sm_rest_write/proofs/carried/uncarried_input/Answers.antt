use Rattle.std.proofs.Common.{◌≡◌, subst}
use Rattle.std.specs.Prelude.{IfOk}
use Rattle.sm_codec.specs.Encoded.{first_path}
use Rattle.sm_shapes.specs.ValueView.{val_of}
use Rattle.sm_rest.specs.service.ServiceView.{service_data}
use Rattle.sm_rest.specs.messages.Goals.{goal_of, the_input}
use Rattle.sm_rest.specs.bind.BoundView.{bound_of}
use Rattle.sm_rest.specs.bind_write.CarriedParts.{uncarried_parts}
use Rattle.sm_rest_write.proofs.PlacesBound.{fits_there, shape_there, shaped_there}
use Rattle.sm_rest_write.proofs.carried.uncarried_input.Goals as goal

pub not_carried-requires-clause-shaped : goal.not_carried-requires-clause-shaped
not_carried-requires-clause-shaped c =
    let s = service_data c.args.service.now in
    let g = goal_of c.args.operation the_input in
    let b = bound_of c.input_place.result in
    shaped_there s g b c.input_place.ensures c.requires.servable

pub not_carried-requires-clause-shape : goal.not_carried-requires-clause-shape
not_carried-requires-clause-shape c =
    let s = service_data c.args.service.now in
    let g = goal_of c.args.operation the_input in
    let b = bound_of c.input_place.result in
    shape_there s g b c.input_place.ensures c.requires.servable (c.requires.number, tt)

pub not_carried-requires-clause-fits : goal.not_carried-requires-clause-fits
not_carried-requires-clause-fits c =
    let s = service_data c.args.service.now in
    let g = goal_of c.args.operation the_input in
    let b = bound_of c.input_place.result in
    fits_there s g b (val_of c.args.value.now) c.input_place.ensures c.requires.fits

pub returns : goal.returns
returns c =
    let v = val_of c.args.value.now in
    subst (λ b. IfOk c.not_carried.result (λ path. path ≡ first_path (uncarried_parts b v))) c.input_place.ensures c.not_carried.ensures
