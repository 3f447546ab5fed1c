use Rattle.std.proofs.Common.{◌<◌, subst, sym}
use Rattle.sm_shapes.specs.TableData.{shape_count}
use Rattle.sm_service.specs.ServiceView.{service_data}
use Rattle.sm_messages.specs.Goals.{goal_of, the_input}
use Rattle.sm_messages.proofs.TreeBodies.{goal_structure}
use Rattle.sm_rpc.proofs.writing.is_unit_input.Goals as goal

pub is_unit-requires : goal.is_unit-requires
is_unit-requires c =
    let s = service_data c.args.service.now in
    subst (λ n. n < shape_count s.table) (sym c.input_shape.ensures)
    (goal_structure s (goal_of c.args.operation the_input) c.requires.servable (c.requires.number, tt)).0
