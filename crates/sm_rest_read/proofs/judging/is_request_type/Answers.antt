use Rattle.sm_rest.specs.service.ServiceView.{service_data}
use Rattle.sm_rest.specs.messages.Goals.{goal_of, the_input}
use Rattle.sm_rest.specs.bind.BoundView.{bound_of}
use Rattle.sm_rest_read.proofs.PlacesJoined.{shape_at}
use Rattle.sm_rest_read.proofs.judging.is_request_type.Goals as goal

pub part_at-part-requires : goal.part_at-part-requires
part_at-part-requires c =
    shape_at (service_data c.args.service.now) (goal_of c.args.operation the_input) (bound_of c.input_place.result) c.requires.servable
    (c.requires.number, tt) c.input_place.ensures
