-- What a service leads to, and what its shapes with values reach: the same shapes with values, and the same members.
use Rattle.std.proofs.Common.{◌≡◌, inl, inr, ℕ, Bool, true, false, List, [], ◌∷◌, Option, Some, None, refl, sym, ap, ◌∙◌, subst}
use Rattle.std.specs.Prelude.{◌↔◌, if◌then◌else◌}
use Rattle.std.specs.List.{Contains}
use Rattle.std.proofs.lemmas.Option.{none-some}
use Rattle.sm_model.specs.Graphs.{Entry, GraphMaps, MemberEntry, ShapeEntry, member_entry, shape_entry}
use Rattle.sm_model.specs.PreludeShapes.{is_prelude_id}
use Rattle.sm_model.specs.Relations.{HasEntry, IsInGraph, IsNeighbor, IsRelated, Reaches, RefersBy, SaysInBody, SaysRelated, WalksBy}
use Rattle.sm_model.specs.Relations.{relation_under}
use Rattle.sm_model.specs.declared.kind.Kind.{Kind}
use Rattle.sm_model.specs.declared.kind.Kind.TheVariants as model
use Rattle.sm_model.specs.declared.relation.Relation.{Relation}
use Rattle.sm_model.specs.declared.relation.Relation.TheVariants.{Member, Container, Target, Input, Output, Error, Operation, Resource}
use Rattle.sm_model.specs.declared.relation.Relation.TheVariants.{Identifier, Property}
use Rattle.sm_model.proofs.NumberedIds.{one_entry}
use Rattle.sm_model.proofs.OneRising.{contains_none}
use Rattle.sm_model.proofs.Worklist.{apart}
use Rattle.sm_compile.specs.Compiled.{CarriesPattern, IsTabled}
use Rattle.sm_compile.specs.Kinds.{has_values, is_text_kind}
use Rattle.sm_compile.specs.Reached.{IsReached, LeadsBy, LeadsTo}
use Rattle.sm_compile.specs.Roots.{IsReachedFromSome}
use Rattle.sm_compile.specs.Sound.{IsValueShape}
use Rattle.sm_rules.specs.Ready.{IsOfService, Ready}
use Rattle.sm_rules.specs.Targets.{by_body}
use Rattle.sm_rules.specs.Words.{IsService}
use Rattle.sm_accepted.proofs.ClosedSets.{reached_inside, service_closed}
use Rattle.sm_service.proofs.BareShapes.{bare_members, bare_of_prelude}

-- a relation that is followed leads from what says it
refers : (r : Relation) (g : GraphMaps) (a b : List ℕ) → (r ≡ Container → ⊥) → IsRelated r g a b → RefersBy r g a b
refers Container g a b other h = absurd (other refl)
refers Member g a b other h = h
refers Target g a b other h = h
refers Input g a b other h = h
refers Output g a b other h = h
refers Error g a b other h = h
refers Operation g a b other h = h
refers Resource g a b other h = h
refers Identifier g a b other h = h
refers Property g a b other h = h

-- a step more
longer : (g : GraphMaps) (by : List (List ℕ)) (root from to : List ℕ) → LeadsBy g root by from → LeadsTo g from to → IsReached g root to
longer g [] root from to h step = (to ∷ [], (subst (λ i. LeadsTo g i to) (sym h) step, refl))
longer g (next ∷ by) root from to h step = let r = longer g by next from to h.1 step in (next ∷ r.0, (h.0, r.1))

reaches_on : (g : GraphMaps) (between : List (List ℕ)) (from last to : List ℕ) → WalksBy g from between last → IsNeighbor g last to
    → Reaches g from to
reaches_on g [] from last to walk step = (last ∷ [], (walk, step))
reaches_on g (next ∷ more) from last to walk step =
    let rest = reaches_on g more next last to walk.1 step in (next ∷ rest.0, (walk.0, rest.1))

-- an id is a shape's or a member's
pub no_member : (g : GraphMaps) (id : List ℕ) (s : ShapeEntry) (m : MemberEntry) → HasEntry g id (shape_entry s)
    → HasEntry g id (member_entry m) → ⊥
no_member g id s m shape member = apart_from (one_entry g id (shape_entry s) (member_entry m) shape member)
  where
    apart_from : shape_entry s ≡ member_entry m → ⊥
    apart_from e = cc

-- what carries a pattern has values
text_values : (kind : Kind) → is_text_kind kind ≡ true → has_values kind ≡ true
text_values model.Text h = refl
text_values model.Enum h = refl
text_values kind h = absurd (apart h)

carried_text : (b : Bool) (o : Option (List ℕ)) (u : List ℕ) → (if b then o else None) ≡ Some u → b ≡ true
carried_text true o u h = refl
carried_text false o u h = absurd (none-some u h)

module _ (g : GraphMaps) (service : List ℕ) (is : IsService g service) (ready : Ready g service) (roots : List (List ℕ))
    (all : (id : List ℕ) → Contains roots id ↔ IsTabled g (IsOfService g service) id) where
  abbrev Of : List ℕ → Type 0
  Of = IsOfService g service

  abbrev In : List ℕ → Type 0
  In = IsReachedFromSome g roots

  from_root : (id : List ℕ) → Of id → IsValueShape g id → In id
  from_root id inside value = (id, (all id).1 (inside, value), ([], refl))

  step_on : (from to : List ℕ) → In from → LeadsTo g from to → In to
  step_on from to h step = (h.0, h.1, longer g h.2.0 h.0 from to h.2.1 step)

  inside_next : (from to : List ℕ) → Of from → IsNeighbor g from to → Of to
  inside_next from to (inl same) step = inr (is, ([], subst (λ i. IsNeighbor g i to) same step))
  inside_next from to (inr inside) step = inr (is, reaches_on g inside.1.0 service from to inside.1.1 step)

  abbrev IsReachedMember : List ℕ → Type 0
  IsReachedMember id = (m : MemberEntry) → HasEntry g id (member_entry m) → In id

  -- a step leads to a member from a shape with values, or from a member
  module _ (from to : List ℕ) (inside : Of from) (before : IsReachedMember from) (m : MemberEntry)
      (there : HasEntry g to (member_entry m)) where
    by_members : (s : ShapeEntry) → HasEntry g from (shape_entry s) → Contains s.members to → IsInGraph g to → In to
    by_members s has listed found = by_kind (has_values s.kind) refl
      where
        by_kind : (b : Bool) → has_values s.kind ≡ b → In to
        by_kind true value =
            step_on from to (from_root from inside (s, has, value)) (inl (shape_entry s, has, inl (refl, listed), found))
        by_kind false none =
            absurd (contains_none to (subst (λ xs. Contains xs to) (bare_members g (ready is).formed from s has none) listed))

    no_body : (s : ShapeEntry) → HasEntry g from (shape_entry s) → (r : Relation) → SaysInBody r s to → ⊥
    no_body s has r body = by_prelude (is_prelude_id from) refl
      where
        by_prelude : (b : Bool) → is_prelude_id from ≡ b → ⊥
        by_prelude true of_prelude =
            let fields = (bare_of_prelude g (ready is).formed from s has of_prelude).1 in
            none-some r (sym (ap (relation_under body.0) fields) ∙ body.3)
        by_prelude false own =
            (ready is).none.kinds from to inside (by_body (record {
              s = s;
              own = (has, own);
              relation = r;
              says = body;
              e = member_entry m;
              there = there;
              may_not = refl;
            }))

    by_entry : (r : Relation) (e : Entry) → HasEntry g from e → SaysRelated r e to → IsInGraph g to → In to
    by_entry r (member_entry n) has says found =
        step_on from to (before n has) (inr (member_entry n, has, (refl, says.1), found))
    by_entry r (shape_entry s) has (inl listed) found = by_members s has listed.1 found
    by_entry r (shape_entry s) has (inr body) found = absurd (no_body s has r body)

    member_led : IsNeighbor g from to → In to
    member_led step =
        let r = refers step.0 g from to step.1 step.2 in by_entry step.0 r.0 r.1 r.2 r.3

  member_walked : (between : List (List ℕ)) (from to : List ℕ) → Of from → IsReachedMember from → WalksBy g from between to
      → IsReachedMember to
  member_walked [] from to inside before walk m there = member_led from to inside before m there walk
  member_walked (next ∷ more) from to inside before walk m there =
      member_walked more next to (inside_next from next inside walk.0)
      (λ n has. member_led from next inside before n has walk.0) walk.1 m there

  service_no_member : IsReachedMember service
  service_no_member m there = absurd (no_member g service is.0 m is.1.0 there)

  pub member_reached : (id : List ℕ) (m : MemberEntry) → HasEntry g id (member_entry m) → Of id → In id
  member_reached id m there (inl same) = absurd (no_member g service is.0 m is.1.0 (subst (λ i. HasEntry g i (member_entry m)) same there))
  member_reached id m there (inr inside) =
      member_walked inside.1.0 service id (inl refl) service_no_member inside.1.1 m there

  -- what is reached is of the service
  pub reached_of_service : (id : List ℕ) → In id → Of id
  reached_of_service id h = reached_inside g Of (service_closed g service is) h.0 id ((all h.0).0 h.1).0 h.2

  pub same_values : (id : List ℕ) → IsValueShape g id → In id ↔ Of id
  same_values id value = (reached_of_service id, λ h. from_root id h value)

  pub same_carriers : (u id : List ℕ) → CarriesPattern g id u → In id ↔ Of id
  same_carriers u id (inl shape) = (
    reached_of_service id,
    λ h. from_root id h (shape.0, shape.1, text_values shape.0.kind (carried_text (is_text_kind shape.0.kind) _ u shape.2)),
  )
  same_carriers u id (inr member) = (reached_of_service id, λ h. member_reached id member.0 member.2 h)
