use Rattle.std.proofs.Common.{map, take}
use Rattle.sm_model.specs.GraphView.{maps_of}
use Rattle.sm_model.specs.Reaching.{id_of_number}
use Rattle.sm_compile.specs.Compiled.{EachSays}
use Rattle.sm_service.specs.steps.BindingsTold.{TellsShapeMedia}
use Rattle.sm_service.proofs.bound_members.media_of_shapes.Given as goal

abbrev pub invariant-loop-shape : goal.invariant-loop-shape
invariant-loop-shape l =
    EachSays (TellsShapeMedia (maps_of l.graph)) (map (id_of_number l.graph) (take l.shape-index l.shapes)) l.media.items
