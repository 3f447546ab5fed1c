use Rattle.std.proofs.Common.{◌≡◌, ◌++◌, [], drop, get_or, map}
use Rattle.sm_tree.specs.View.{members_view}
use Rattle.sm_model.specs.GraphView.{AreShapeNumbers, ids, maps_of}
use Rattle.sm_ast.specs.Written.{written_members}
use Rattle.sm_ast.proofs.write.member.put_members.Given as goal

abbrev pub invariant-loop-member : goal.invariant-loop-member
invariant-loop-member l = record {
  numbers : AreShapeNumbers l.graph (drop l.member-index l.members);
  written : members_view l.fields.items ++ written_members (maps_of l.graph).shapes
      (map (λ k. get_or (ids l.graph) k []) (drop l.member-index l.members))
      ≡ members_view l.fn.fields.items ++ written_members (maps_of l.graph).shapes (map (λ k. get_or (ids l.graph) k []) l.members);
}
