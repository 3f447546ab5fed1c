use Rattle.sm_model.specs.Reaching.{id_of_number}
use Rattle.sm_compile.specs.steps.Walking.{IsWalk, walk_left}
use Rattle.sm_compile.proofs.way_room.walk_from.Given as goal

abbrev pub decreases-loop-served : goal.decreases-loop-served
decreases-loop-served l = walk_left l.walk

abbrev pub invariant-loop-served : goal.invariant-loop-served
invariant-loop-served l = IsWalk l.graph (id_of_number l.graph l.root) l.walk
