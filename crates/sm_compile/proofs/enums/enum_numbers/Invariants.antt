use Rattle.std.proofs.Common.{◌≡◌, ◌++◌, drop, map}
use Rattle.sm_model.specs.GraphView.{AreShapeNumbers, maps_of}
use Rattle.sm_model.specs.Reaching.{id_of_number}
use Rattle.sm_compile.specs.Sound.{enum_numbers}
use Rattle.sm_compile.proofs.enums.enum_numbers.Given as goal

abbrev pub invariant-loop-member : goal.invariant-loop-member
invariant-loop-member l = record {
  numbers : AreShapeNumbers l.graph (drop l.member-index l.members);
  all : l.numbers.items ++ enum_numbers (maps_of l.graph) (map (id_of_number l.graph) (drop l.member-index l.members))
      ≡ enum_numbers (maps_of l.graph) (map (id_of_number l.graph) l.members);
}
