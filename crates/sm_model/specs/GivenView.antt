-- What shapes of the code, from which a graph is made, stand for.
use Rattle.std.specs.Prelude.{List, map}
use Rattle.sm_tree.specs.View.{node_of, pairs_view}
use Rattle.sm_model.specs.Graphs.{MemberGiven, ShapeGiven}
use Rattle.sm_model.specs.declared.graph.given.GraphMember.{GraphMember}
use Rattle.sm_model.specs.declared.graph.given.GraphMembers.{GraphMembers}
use Rattle.sm_model.specs.declared.graph.given.GraphShape.{GraphShape}

abbrev pub member_given_view : GraphMember → MemberGiven
member_given_view m = record { name = m.name; target = m.target; traits = pairs_view m.traits }

abbrev pub members_given_view : List GraphMember → List MemberGiven
members_given_view ms = map member_given_view ms

abbrev pub members_given_of : GraphMembers → List MemberGiven
members_given_of ms = members_given_view ms.members.items

abbrev pub shape_given_view : GraphShape → ShapeGiven
shape_given_view s = record {
  id = s.id;
  kind = s.kind;
  members = members_given_of s.members;
  properties = node_of s.properties;
  traits = pairs_view s.traits;
}

abbrev pub given_view : List GraphShape → List ShapeGiven
given_view ss = map shape_given_view ss
