use Rattle.std.proofs.Common.{◌≡◌, ◌++◌, [], drop, get_or, map}
use Rattle.sm_model.specs.GraphView.{AreShapeNumbers, ids, maps_of}
use Rattle.sm_idl.specs.Written.{member_lines}
use Rattle.sm_idl.proofs.write.member.put_members.Given as goal

abbrev pub invariant-loop-member : goal.invariant-loop-member
invariant-loop-member l = record {
  numbers : AreShapeNumbers l.graph (drop l.member-index l.members);
  written : l.out.items ++ member_lines l.targets (maps_of l.graph).shapes
      (map (λ k. get_or (ids l.graph) k []) (drop l.member-index l.members))
      ≡ l.fn.out.items ++ member_lines l.targets (maps_of l.graph).shapes (map (λ k. get_or (ids l.graph) k []) l.members);
}
