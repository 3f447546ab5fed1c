use Rattle.std.proofs.Common.{subst, sym, ◌<◌}
use Rattle.sm_shapes.specs.TableData.{shape_count}
use Rattle.sm_service.specs.ServiceView.{service_data}
use Rattle.sm_messages.specs.Goals.{goal_of, the_input}
use Rattle.sm_messages.proofs.TreeBodies.{goal_structure}
use Rattle.sm_messages.proofs.values.whole_request.Goals as goal

pub is_unit-unit-requires : goal.is_unit-unit-requires
is_unit-unit-requires g c =
    let s = service_data c.args.service.now in
    subst (λ k. k < shape_count s.table) (sym c.input_shape-shape.ensures)
    (goal_structure s (goal_of c.args.operation the_input) c.requires.servable (c.requires.number, tt)).0

pub returns-in-Ok-clause-request : goal.returns-in-Ok-clause-request
returns-in-Ok-clause-request g c told =
    c.in-Ok.ensures.value (goal_of c.args.operation the_input) told (sym c.input_shape-shape.ensures) (sym c.is_unit-unit.ensures)

pub returns-in-Err-clause-request : goal.returns-in-Err-clause-request
returns-in-Err-clause-request g c told =
    c.in-Err.ensures.value (goal_of c.args.operation the_input) told (sym c.input_shape-shape.ensures) (sym c.is_unit-unit.ensures)
