-- The ids of a shape's members stand between its own id and those of later shapes.
use Rattle.std.proofs.Common.{◌≡◌, ℕ, List, [], ◌∷◌, ◌++◌, sym, ap, subst, ◌∙◌}
use Rattle.std.specs.Cmp.Lexicographic.{nat_list_cmp_total}
use Rattle.std.specs.declared.cmp.Ordering.TheVariants.{Less}
use Rattle.sm_ids.specs.Identifier.{IsIdentifier}
use Rattle.sm_model.specs.Given.{AreGivenShapes, given_ids}
use Rattle.sm_model.specs.Graphs.{ShapeGiven, text_cmp, member_id}
use Rattle.sm_model.specs.References.{IsShapeId}
use Rattle.sm_model.specs.steps.Blocks.{AreMemberIds}
use Rattle.sm_model.specs.steps.Rising.{IsBelow, Rise}
use Rattle.sm_model.proofs.MemberIds.{below_member, member_below}

below_append : (k : List ℕ) (js ks : List (List ℕ)) → IsBelow k js → IsBelow k ks → IsBelow k (js ++ ks)
below_append k [] ks h i = i
below_append k (j ∷ js) ks h i = (h.0, below_append k js ks h.1 i)

-- what is below a shape is below its members
below_members : (k shape : List ℕ) (ids : List (List ℕ)) → IsShapeId shape → AreMemberIds shape ids
    → ((m : List ℕ) → text_cmp k (member_id shape m) ≡ Less) → IsBelow k ids
below_members k shape [] h members less = tt
below_members k shape (id ∷ ids) h members less =
    (ap (text_cmp k) members.0.2 ∙ less members.0.0, below_members k shape ids h members.1 less)

-- a member is below what its shape is below
member_below_all : (shape m : List ℕ) (ss : List ShapeGiven) → IsShapeId shape → IsIdentifier m → AreGivenShapes ss
    → IsBelow shape (given_ids ss) → IsBelow (member_id shape m) (given_ids ss)
member_below_all shape m [] h i given below = tt
member_below_all shape m (s ∷ ss) h i given below =
    (member_below shape s.id h given.0.id m i below.0, member_below_all shape m ss h i given.1 below.1)

rise_between : (shape : List ℕ) (ids : List (List ℕ)) (ss : List ShapeGiven) → IsShapeId shape → AreMemberIds shape ids → Rise ids
    → AreGivenShapes ss → IsBelow shape (given_ids ss) → Rise (given_ids ss) → Rise (ids ++ given_ids ss)
rise_between shape [] ss h members up given below rise = rise
rise_between shape (id ∷ ids) ss h members up given below rise = (
  below_append id ids (given_ids ss) up.0
      (subst (λ k. IsBelow k (given_ids ss)) (sym members.0.2) (member_below_all shape members.0.0 ss h members.0.1 given below)),
  rise_between shape ids ss h members.1 up.1 given below rise,
)

module _ (shape : List ℕ) (ids : List (List ℕ)) (ss : List ShapeGiven) (h : IsShapeId shape) (members : AreMemberIds shape ids)
    (up : Rise ids) (given : AreGivenShapes ss) where
  still_below : (k : List ℕ) (ks : List (List ℕ)) → IsBelow k (ks ++ shape ∷ given_ids ss) → IsBelow k (ks ++ shape ∷ (ids ++ given_ids ss))
  still_below k [] below = (
    below.0,
    below_append k ids (given_ids ss) (below_members k shape ids h members
        (λ m. nat_list_cmp_total.trans k shape (member_id shape m) below.0 (below_member shape h m)))
        below.1,
  )
  still_below k (j ∷ js) below = (below.0, still_below k js below.1)

  -- members may be put behind their shape
  pub rise_with_members : (ks : List (List ℕ)) → Rise (ks ++ shape ∷ given_ids ss) → Rise (ks ++ shape ∷ (ids ++ given_ids ss))
  rise_with_members [] rise = (
    below_append shape ids (given_ids ss) (below_members shape shape ids h members (below_member shape h)) rise.0,
    rise_between shape ids ss h members up given rise.0 rise.1,
  )
  rise_with_members (k ∷ ks) rise = (still_below k ks rise.0, rise_with_members ks rise.1)
