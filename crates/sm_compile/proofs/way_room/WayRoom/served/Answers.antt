use Rattle.sm_compile.proofs.WalkTurns.{cleared}
use Rattle.sm_compile.proofs.way_room.WayRoom.served.Goals as goal

pub returns-else-is_unserved-clause-room : goal.returns-else-is_unserved-clause-room
returns-else-is_unserved-clause-room c =
    cleared c.args.graph.now c.walk_from-answer.new.walk c.clear.new.walk c.walk_from-answer.ensures.kept c.clear.ensures.marks c.clear.ensures.entered
    c.clear.ensures.above c.clear.ensures.known
