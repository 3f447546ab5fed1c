use Rattle.std.proofs.Common.{None, ap, replicate, ◌∙◌}
use Rattle.sm_service.proofs.ServingRooms.{nothing_told}
use Rattle.sm_service.proofs.serving_room.ServingRoom.over.Goals as goal

pub returns : goal.returns
returns c = (
  c.in_ok-walks.ensures,
  nothing_told c.args.graph.now c.in_ok-told.told.items (c.in_ok-told.ensures ∙ ap (λ n. replicate n None) c.count.ensures),
)
