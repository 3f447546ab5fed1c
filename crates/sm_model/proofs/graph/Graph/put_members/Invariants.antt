use Rattle.std.proofs.Common.{drop}
use Rattle.sm_model.specs.steps.Linking.{AddsUpTo, MembersLinks}
use Rattle.sm_model.proofs.graph.Graph.put_members.Given as goal

abbrev pub invariant-loop-member : goal.invariant-loop-member
invariant-loop-member l =
    AddsUpTo (MembersLinks l.shape l.members) (MembersLinks l.shape (drop l.member-index l.members)) l.initial.links.items l.links.items
