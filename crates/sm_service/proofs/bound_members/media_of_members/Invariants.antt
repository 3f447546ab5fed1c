use Rattle.std.proofs.Common.{map, take}
use Rattle.sm_model.specs.GraphView.{maps_of}
use Rattle.sm_model.specs.Reaching.{id_of_number}
use Rattle.sm_compile.specs.Compiled.{EachSays}
use Rattle.sm_service.specs.steps.BindingsTold.{TellsMedia}
use Rattle.sm_service.proofs.bound_members.media_of_members.Given as goal

abbrev pub invariant-loop-member : goal.invariant-loop-member
invariant-loop-member l =
    EachSays (TellsMedia (maps_of l.graph)) (map (id_of_number l.graph) (take l.member-index l.members)) l.media.items
