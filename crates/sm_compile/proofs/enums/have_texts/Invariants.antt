use Rattle.std.proofs.Common.{◌≡◌, drop, map}
use Rattle.std.specs.List.{list_all}
use Rattle.sm_model.specs.GraphView.{AreShapeNumbers, maps_of}
use Rattle.sm_model.specs.Reaching.{id_of_number}
use Rattle.sm_compile.specs.steps.Tests.{enum_text, is_some_text}
use Rattle.sm_compile.proofs.enums.have_texts.Given as goal

abbrev pub invariant-loop-member : goal.invariant-loop-member
invariant-loop-member l = record {
  numbers : AreShapeNumbers l.graph (drop l.member-index l.members);
  all : list_all (λ id. is_some_text (enum_text (maps_of l.graph) id)) (map (id_of_number l.graph) (drop l.member-index l.members))
      ≡ list_all (λ id. is_some_text (enum_text (maps_of l.graph) id)) (map (id_of_number l.graph) l.members);
}
