use Rattle.std.proofs.Common.{◌≡◌, ◌<◌, ◌↔◌, [], refl, subst, sym}
use Rattle.std.specs.Prelude.{IsTrue}
use Rattle.sm_shapes.specs.Fitting.{Fits, any_text}
use Rattle.sm_shapes.specs.Places.{root_place}
use Rattle.sm_shapes.specs.TableData.{shape_count}
use Rattle.sm_shapes.specs.TableView.{table_data}
use Rattle.sm_shapes.specs.ValueView.{val_of}
use Rattle.sm_codec.specs.Written.{uncarried}
use Rattle.sm_service.specs.ServiceView.{service_data}
use Rattle.sm_messages.specs.Goals.{goal_of}
use Rattle.sm_messages.specs.TreeBodies.{goal_place}
use Rattle.sm_messages.proofs.Homes.{nothing_uncarried}
use Rattle.sm_messages.proofs.TreeBodies.{goal_structure}
use Rattle.sm_messages.proofs.carrying.carried_on.Goals as goal

pub all_carried-requires-clause-shape : goal.all_carried-requires-clause-shape
all_carried-requires-clause-shape g c =
    let s = service_data c.args.service.now in
    let x = c.requires.fits in
    subst (λ n. n < shape_count s.table) (sym (c.in-Some.ensures x.0 x.1))
    (goal_structure s (goal_of c.args.operation x.0) c.requires.servable x.1.goal).0

pub all_carried-requires-clause-fits : goal.all_carried-requires-clause-fits
all_carried-requires-clause-fits g c =
    let s = service_data c.args.service.now in
    let x = c.requires.fits in
    subst (λ n. Fits s.table any_text (root_place n) (val_of c.args.value.now)) (sym (c.in-Some.ensures x.0 x.1)) x.1.fits

pub returns-in-Some : goal.returns-in-Some
returns-in-Some g c = λ role is.
    let s = service_data c.args.service.now in
    let l = g.L.Leaves.convention c.args.leaves.now in
    subst (λ n. IsTrue c.all_carried.result ↔ (uncarried s.table l (root_place n) (val_of c.args.value.now) ≡ []))
    (c.in-Some.ensures role is) c.all_carried.ensures

pub returns-in-None : goal.returns-in-None
returns-in-None g c = λ role is.
    let s = service_data c.args.service.now in
    let l = g.L.Leaves.convention c.args.leaves.now in
    let at = goal_of c.args.operation role in (
      λ yes. nothing_uncarried s.table any_text l (goal_place s at) (val_of c.args.value.now)
          (goal_structure s at c.requires.servable is.goal).1 is.fits c.in-None.ensures,
      λ none. refl,
    )
