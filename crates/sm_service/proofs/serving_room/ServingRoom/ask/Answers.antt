use Rattle.std.proofs.Common.{subst, sym}
use Rattle.sm_model.specs.GraphView.{maps_of}
use Rattle.sm_model.specs.Reaching.{id_of_number}
use Rattle.sm_compile.specs.Answers.{TellsServed}
use Rattle.sm_service.proofs.ServingRooms.{one_more_told}
use Rattle.sm_service.proofs.serving_room.ServingRoom.ask.Goals as goal

pub returns-clause-room : goal.returns-clause-room
returns-clause-room c =
    let g = c.args.graph.now in
    let root = c.args.root in (
      c.walk_from.ensures.room,
      one_more_told g c.args.self.now.told.items root c.in_ok-kept.kept c.requires.number c.requires.room.1
          (subst (TellsServed (maps_of g) (id_of_number g root)) (sym c.in_ok-kept.ensures) c.in_ok-served.ensures.served),
    )
