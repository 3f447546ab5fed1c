use Rattle.std.proofs.Common.{◌≡◌, ◌<◌, ap, subst, sym, ◌∙◌}
use Rattle.sm_shapes.specs.Fitting.{Fits, any_text}
use Rattle.sm_shapes.specs.Places.{root_place}
use Rattle.sm_shapes.specs.TableData.{shape_count}
use Rattle.sm_shapes.specs.ValueView.{val_of}
use Rattle.sm_codec.specs.Encoded.{first_path}
use Rattle.sm_codec.specs.Written.{uncarried}
use Rattle.sm_service.specs.ServiceView.{service_data}
use Rattle.sm_messages.specs.Goals.{goal_of}
use Rattle.sm_messages.specs.TreeBodies.{goal_place}
use Rattle.sm_messages.proofs.Homes.{nothing_uncarried}
use Rattle.sm_messages.proofs.TreeBodies.{goal_structure}
use Rattle.sm_messages.proofs.carrying.not_carried_on.Goals as goal

pub carry_fault-requires-clause-shape : goal.carry_fault-requires-clause-shape
carry_fault-requires-clause-shape g c =
    let s = service_data c.args.service.now in
    let x = c.requires.fits in
    subst (λ n. n < shape_count s.table) (sym (c.in-Some.ensures x.0 x.1))
    (goal_structure s (goal_of c.args.operation x.0) c.requires.servable x.1.goal).0

pub carry_fault-requires-clause-fits : goal.carry_fault-requires-clause-fits
carry_fault-requires-clause-fits g c =
    let s = service_data c.args.service.now in
    let x = c.requires.fits in
    subst (λ n. Fits s.table any_text (root_place n) (val_of c.args.value.now)) (sym (c.in-Some.ensures x.0 x.1)) x.1.fits

pub returns-in_ok-found-in-Some : goal.returns-in_ok-found-in-Some
returns-in_ok-found-in-Some g c = λ role is.
    let s = service_data c.args.service.now in
    let l = g.L.Leaves.convention c.args.leaves.now in
    subst (λ n. c.in_ok-found-in-Some.found ≡ first_path (uncarried s.table l (root_place n) (val_of c.args.value.now)))
    (c.in-Some.ensures role is) c.in_ok-found-in-Some.ensures

pub returns-in-None : goal.returns-in-None
returns-in-None g c = λ role is.
    let s = service_data c.args.service.now in
    let l = g.L.Leaves.convention c.args.leaves.now in
    let at = goal_of c.args.operation role in
    ap first_path (sym (nothing_uncarried s.table any_text l (goal_place s at) (val_of c.args.value.now)
    (goal_structure s at c.requires.servable is.goal).1 is.fits c.in-None.ensures))
