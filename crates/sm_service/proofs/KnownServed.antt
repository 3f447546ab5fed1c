-- Shapes from which no link leads to one that isn't served are served: each step of a way is two links, to a member and to its target.
use Rattle.std.proofs.Common.{◌≡◌, ◌<◌, inl, ℕ, Bool, true, false, List, [], ◌∷◌, cond, length, get_or, refl, sym, ◌∙◌, subst}
use Rattle.std.specs.List.{Contains}
use Rattle.sm_model.specs.Graphs.{GraphMaps, member_entry, member_id, shape_entry}
use Rattle.sm_model.specs.GraphView.{entries_of, maps_of}
use Rattle.sm_model.specs.Reaching.{AreMarks, IsMarked, id_of_number}
use Rattle.sm_model.specs.Relations.{IsInGraph, IsNeighbor, Reaches}
use Rattle.sm_model.specs.declared.graph.Graph.{Graph}
use Rattle.sm_model.specs.declared.relation.Relation.TheVariants.{Member, Target}
use Rattle.sm_model.proofs.NumberedIds.{number_of}
use Rattle.sm_model.proofs.OneRising.{contains_none}
use Rattle.sm_model.proofs.Worklist.{apart}
use Rattle.sm_select.specs.Images.{AreImage, turned}
use Rattle.sm_compile.specs.Kinds.{has_value_members, value_members}
use Rattle.sm_compile.specs.Served.{IsStep, IsUnserved, IsWay, WayStep}
use Rattle.sm_compile.specs.WayRooms.{AreKnownServed}
use Rattle.sm_compile.proofs.FirstWays.{way_begins}
use Rattle.sm_service.proofs.OperationsTold.{got_in}

-- values stand at members
listed : (b : Bool) (ms : List (List ℕ)) (id : List ℕ) → Contains (cond b ms []) id → Contains ms id
listed true ms id h = h
listed false ms id h = absurd (contains_none id h)

module _ (g : GraphMaps) where
  -- nothing that isn't served is there, and no link leads to it
  record IsFree (id : List ℕ) : Type 0 where
    pub here : IsUnserved g id → ⊥
    pub on : (x : List ℕ) → IsUnserved g x → Reaches g id x → ⊥

  to_member : (id : List ℕ) (step : WayStep) → IsStep g id step → IsNeighbor g id (member_id id step.name)
  to_member id step is = (
    Member,
    λ e. cc,
    (
      shape_entry is.s,
      is.there,
      inl (
        refl,
        listed (has_value_members is.s.kind) is.s.members (member_id id step.name)
            (got_in (value_members is.s) step.at (member_id id step.name) is.at),
      ),
      (member_entry is.m, is.member_there),
    ),
  )

  to_target : (id : List ℕ) (step : WayStep) → IsStep g id step → IsInGraph g step.to → IsNeighbor g (member_id id step.name) step.to
  to_target id step is found = (Target, λ e. cc, (member_entry is.m, is.member_there, (refl, is.is), found))

  free_on : (id : List ℕ) (step : WayStep) → IsStep g id step → IsInGraph g step.to → IsFree id → IsFree step.to
  free_on id step is found free =
      let member = to_member id step is in
      let target = to_target id step is found in
      record {
        here = λ unserved. free.on step.to unserved (member_id id step.name ∷ [], (member, target));
        on = λ x unserved leads. free.on x unserved (member_id id step.name ∷ step.to ∷ leads.0, (member, (target, leads.1)));
      }

  free_served : (way : List WayStep) (id : List ℕ) → IsFree id → IsWay g id way → ⊥
  free_served [] id free is = free.here is
  free_served (step ∷ way) id free is =
      free_served way step.to (free_on id step is.0 (way_begins g step.to way is.1) free) is.1

module _ (g : Graph) (unserved leading known : List Bool)
    (are : AreMarks (length (entries_of g)) (λ k. IsUnserved (maps_of g) (id_of_number g k)) unserved)
    (image : AreImage g unserved (turned true (Reaches (maps_of g))) leading)
    (others : AreMarks (length unserved) (λ k. (get_or unserved k false ≡ false) × (get_or leading k false ≡ false)) known) where
  free_known : (k : ℕ) → IsMarked known k → IsFree (maps_of g) (id_of_number g k)
  free_known k marked =
      let told = (others.marked k).0 marked in
      let lt = subst (λ n. k < n) are.whole told.0 in
      record {
        here = λ h. apart (sym told.1.0 ∙ (are.marked k).1 (lt, h));
        on = λ x h leads.
            let n = number_of g x (way_begins (maps_of g) x [] h) in
            let at = (are.marked n.0).1 (n.1, subst (IsUnserved (maps_of g)) (sym n.2) h) in
            apart (sym told.1.1
            ∙ (image.marked k).1 (lt, (n.0, at, subst (Reaches (maps_of g) (id_of_number g k)) (sym n.2) leads)));
      }

  pub known_told : AreKnownServed g known
  known_told = record {
    whole = others.whole ∙ are.whole;
    served = λ k marked way is. free_served (maps_of g) way (id_of_number g k) (free_known k marked) is;
  }
