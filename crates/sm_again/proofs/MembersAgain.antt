-- What is said of the members of a shape, one after the other, states them as the graph has them; and so the shape.
use Rattle.std.proofs.Common.{◌≡◌, inl, inr, ℕ, List, [], ◌∷◌, map, Some, refl, sym, ap, subst, ◌∙◌}
use Rattle.std.specs.FinMap as fin
use Rattle.sm_tree.specs.Node.{Node}
use Rattle.sm_model.specs.Formed.{StandsAmong}
use Rattle.sm_model.specs.Graphs.{MemberGiven, ShapeEntry, ShapeMap, member_id, shape_entry}
use Rattle.sm_merge.specs.Restated.{AreMembersIn, IsMemberIn, IsShapeIn}

module _ (shapes : ShapeMap) (id : List ℕ) (stated : List (List ℕ) → List MemberGiven) where
  -- what is stated of these ids are the members under them
  pub record AreSaidMembers (ids : List (List ℕ)) : Type 0 where
    pub same : map (λ (m : MemberGiven). member_id id m.name) (stated ids) ≡ ids
    pub are : AreMembersIn shapes id (stated ids)

  -- of the member with this name one is stated, before those of other ids
  pub record IsSaidMember (name : List ℕ) : Type 0 where
    pub member : MemberGiven
    pub same : member_id id member.name ≡ member_id id name
    pub is_in : IsMemberIn shapes id member
    pub first : (ids : List (List ℕ)) → stated (member_id id name ∷ ids) ≡ member ∷ stated ids

  pub members_again : stated [] ≡ [] → (names : List (List ℕ)) → ((name : List ℕ) → StandsAmong name names → IsSaidMember name)
      → AreSaidMembers (map (member_id id) names)
  members_again none [] look = record {
    same = ap (map (λ (m : MemberGiven). member_id id m.name)) none;
    are = subst (AreMembersIn shapes id) (sym none) tt;
  }
  members_again none (name ∷ names) look =
      let here = look name (inl refl) in
      let rest = members_again none names (λ k later. look k (inr later)) in
      let first = here.first (map (member_id id) names) in
      record {
        same = ap (map (λ (m : MemberGiven). member_id id m.name)) first ∙ (λ i. here.same i ∷ rest.same i);
        are = subst (AreMembersIn shapes id) (sym first) (here.is_in, rest.are);
      }

  pub shape_in : (s : ShapeEntry) (properties : Node) (traits : List (List ℕ × Node)) → fin.get shapes id ≡ Some (shape_entry s)
      → AreSaidMembers s.members → properties ≡ s.properties → traits ≡ fin.entries s.traits
      → IsShapeIn shapes
      (record { id = id; kind = s.kind; members = stated s.members; properties = properties; traits = traits })
  shape_in s properties traits found members body same = record {
    traits = s.traits;
    found = found ∙ (λ i. Some (shape_entry (record {
      kind = s.kind;
      members = sym members.same i;
      properties = sym body i;
      traits = s.traits;
    })));
    same = same;
    members = members.are;
  }
