use Rattle.std.proofs.Common.{◌≡◌, ◌++◌, drop, map}
use Rattle.sm_model.specs.GraphView.{AreShapeNumbers, maps_of}
use Rattle.sm_model.specs.Reaching.{id_of_number}
use Rattle.sm_compile.specs.Sound.{enum_texts}
use Rattle.sm_compile.specs.steps.Naming.{texts_of_all}
use Rattle.sm_compile.proofs.enums.enum_texts.Given as goal

abbrev pub invariant-loop-member : goal.invariant-loop-member
invariant-loop-member l = record {
  numbers : AreShapeNumbers l.graph (drop l.member-index l.members);
  texts : texts_of_all l.texts.items ++ enum_texts (maps_of l.graph) (map (id_of_number l.graph) (drop l.member-index l.members))
      ≡ enum_texts (maps_of l.graph) (map (id_of_number l.graph) l.members);
}
