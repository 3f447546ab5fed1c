use Rattle.std.proofs.Common.{◌≡◌, sym, subst}
use Rattle.std.specs.Prelude.{IfOk}
use Rattle.sm_codec.specs.Encoded.{first_path}
use Rattle.sm_shapes.specs.Fitting.{Fits, any_text}
use Rattle.sm_shapes.specs.ValueView.{val_of}
use Rattle.sm_rest.specs.service.ServiceView.{service_data}
use Rattle.sm_rest.specs.messages.Answers.{reply_role}
use Rattle.sm_rest.specs.messages.Goals.{goal_of}
use Rattle.sm_rest.specs.messages.TreeBodies.{goal_place}
use Rattle.sm_rest.specs.bind.BoundView.{bound_of}
use Rattle.sm_rest.specs.bind_read.BoundGoals.{bound_at}
use Rattle.sm_rest.specs.bind_write.CarriedParts.{uncarried_parts}
use Rattle.sm_rest_write.proofs.PlacesBound.{fits_there, shape_there, shaped_there}
use Rattle.sm_rest_write.proofs.carried.uncarried_reply.Goals as goal

pub not_carried-requires-clause-shaped : goal.not_carried-requires-clause-shaped
not_carried-requires-clause-shaped c =
    let s = service_data c.args.service.now in
    let g = goal_of c.args.operation (reply_role c.args.reply.now) in
    let b = bound_of c.reply_place.result in
    shaped_there s g b c.reply_place.ensures c.requires.servable

pub not_carried-requires-clause-shape : goal.not_carried-requires-clause-shape
not_carried-requires-clause-shape c =
    let s = service_data c.args.service.now in
    let g = goal_of c.args.operation (reply_role c.args.reply.now) in
    let b = bound_of c.reply_place.result in
    shape_there s g b c.reply_place.ensures c.requires.servable c.requires.goal

pub not_carried-requires-clause-fits : goal.not_carried-requires-clause-fits
not_carried-requires-clause-fits c =
    let s = service_data c.args.service.now in
    let g = goal_of c.args.operation (reply_role c.args.reply.now) in
    let b = bound_of c.reply_place.result in
    fits_there s g b (val_of c.value_in.result.now) c.reply_place.ensures (subst (λ v. Fits s.table any_text (goal_place s g) v) (sym c.value_in.ensures) c.requires.fits)

pub returns : goal.returns
returns c =
    let s = service_data c.args.service.now in
    let g = goal_of c.args.operation (reply_role c.args.reply.now) in
    subst (λ v. IfOk c.not_carried.result (λ path. path ≡ first_path (uncarried_parts (bound_at s g) v))) c.value_in.ensures
    (subst (λ b. IfOk c.not_carried.result (λ path. path ≡ first_path (uncarried_parts b (val_of c.value_in.result.now))))
    c.reply_place.ensures c.not_carried.ensures)
