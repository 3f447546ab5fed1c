use Rattle.std.proofs.Common.{◌≡◌, ap, subst, sym, ◌∙◌}
use Rattle.sm_shapes.specs.ValueView.{val_of}
use Rattle.sm_service.specs.ServiceView.{service_data}
use Rattle.sm_messages.specs.Carrying.{IsValueOf}
use Rattle.sm_messages.specs.Goals.{goal_of, goal_shape}
use Rattle.sm_messages.proofs.Homes.{home_on, input_alone}
use Rattle.sm_messages.proofs.TreeBodies.{goal_structure}
use Rattle.sm_messages.proofs.carrying.shape_on.Goals as goal

pub returns-in-Request : goal.returns-in-Request
returns-in-Request c = λ role is.
    let s = service_data c.args.service.now in
    let o = c.args.operation in
    let v = val_of c.args.value.now in
    let own = subst (λ side. IsValueOf s o side v role) c.in-Request.is is in
    c.input_shape.ensures ∙ ap (goal_shape s) (sym (input_alone s o v role own))

pub home_of-requires-clause-fits : goal.home_of-requires-clause-fits
home_of-requires-clause-fits c =
    let s = service_data c.args.service.now in
    let x = c.requires.fits in
    let g = goal_of c.args.operation x.0 in
    (goal_shape s g, goal_structure s g c.requires.servable x.1.goal, x.1.fits)

pub returns-in-Response : goal.returns-in-Response
returns-in-Response c =
    home_on (service_data c.args.service.now) c.args.operation c.args.side (val_of c.args.value.now) c.home_of.result c.requires.servable
    c.home_of.ensures
