use Rattle.std.proofs.Common.{drop, map}
use Rattle.std.specs.Prelude.{◌↔◌}
use Rattle.sm_model.specs.GraphView.{AreShapeNumbers, maps_of}
use Rattle.sm_model.specs.Reaching.{id_of_number}
use Rattle.sm_compile.specs.steps.Unserved.{TellsType}
use Rattle.sm_compile.proofs.unserved.tells_type.Given as goal

abbrev pub invariant-loop-member : goal.invariant-loop-member
invariant-loop-member l = record {
  numbers : AreShapeNumbers l.graph (drop l.member-index l.members);
  told : TellsType (maps_of l.graph) (id_of_number l.graph l.shape) (map (id_of_number l.graph) (drop l.member-index l.members))
      ↔ TellsType (maps_of l.graph) (id_of_number l.graph l.shape) (map (id_of_number l.graph) l.members);
}
