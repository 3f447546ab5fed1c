use Rattle.std.proofs.Common.{◌≡◌, map, take}
use Rattle.std.specs.List.{flat_map}
use Rattle.sm_model.specs.GraphView.{AreShapeNumbers, maps_of}
use Rattle.sm_model.specs.Reaching.{id_of_number}
use Rattle.sm_compile.specs.Compiled.{members_under}
use Rattle.sm_service.proofs.bound_members.member_numbers.Given as goal

abbrev pub invariant-loop-shape : goal.invariant-loop-shape
invariant-loop-shape l = record {
  ids : map (id_of_number l.graph) l.members.items
      ≡ flat_map (members_under (maps_of l.graph)) (map (id_of_number l.graph) (take l.shape-index l.shapes));
  numbers : AreShapeNumbers l.graph l.members.items;
}
