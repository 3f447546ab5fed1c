use Rattle.std.proofs.Common.{◌≡◌, drop, map}
use Rattle.std.specs.List.{list_all}
use Rattle.sm_model.specs.GraphView.{AreShapeNumbers, maps_of}
use Rattle.sm_model.specs.Reaching.{id_of_number}
use Rattle.sm_compile.specs.steps.Tests.{is_sound_member}
use Rattle.sm_compile.proofs.soundness.are_sound_members.Given as goal

abbrev pub invariant-loop-member : goal.invariant-loop-member
invariant-loop-member l = record {
  numbers : AreShapeNumbers l.graph (drop l.member-index l.members);
  all : list_all (is_sound_member (maps_of l.graph) l.kind) (map (id_of_number l.graph) (drop l.member-index l.members))
      ≡ list_all (is_sound_member (maps_of l.graph) l.kind) (map (id_of_number l.graph) l.members);
}
