-- What is told of shapes without a finite value, from the marks, and which shapes use which.
use Rattle.std.proofs.Common.{◌≡◌, ◌⊎◌, ◌<◌, inl, inr, ℕ, Bool, true, false, List, [], Option, Some, None, get_or, refl, sym, ap, ◌∙◌}
use Rattle.std.proofs.Common.{subst, arith}
use Rattle.std.specs.Prelude.{◌&&◌, not}
use Rattle.std.specs.FinMap as fin
use Rattle.std.specs.List.{Contains}
use Rattle.std.proofs.lemmas.Option.{none-some, same_Some}
use Rattle.sm_model.specs.EventView.{EventTold}
use Rattle.sm_model.specs.Graphs.{Entry, shape_entry, member_entry, ShapeEntry, MemberEntry, GraphMaps}
use Rattle.sm_model.specs.GraphView.{IsShapeNumber, maps_of}
use Rattle.sm_model.specs.PreludeShapes.{is_prelude_id}
use Rattle.sm_model.specs.Reaching.{IsMarked, id_of_number}
use Rattle.sm_model.specs.Relations.{HasEntry, IsInGraph, IsNeighbor}
use Rattle.sm_model.specs.declared.event.ModelEvent.{ModelEvent}
use Rattle.sm_model.specs.declared.graph.Graph.{Graph}
use Rattle.sm_model.specs.declared.kind.Kind.{Kind}
use Rattle.sm_model.specs.declared.kind.Kind.TheVariants.{Structure, Union}
use Rattle.sm_model.specs.declared.relation.Relation.TheVariants.{Container, Member, Target}
use Rattle.sm_model.proofs.NumberedIds.{number_of}
use Rattle.sm_model.proofs.Searching.{and_left, and_right}
use Rattle.sm_model.proofs.Worklist.{apart, marked_within}
use Rattle.sm_select.specs.Ways.{AreSteps}
use Rattle.sm_compile.specs.Looked.{kind_in, kind_under, listed_in, listed_under, target_in, target_under}
use Rattle.sm_rules.specs.RuleEvents.{IsEventAt, Puts, rule_event}
use Rattle.sm_rules.specs.declared.rule.Rule.TheVariants.{ShapeInfinite}
use Rattle.sm_passes.specs.Owned.{is_member_in}
use Rattle.sm_passes.specs.Putting.{IsWhere}
use Rattle.sm_passes.proofs.EventsPut.{puts_same}
use Rattle.sm_passes.proofs.EntriesThere.{entry_there}
use Rattle.sm_passes.proofs.OwnShapes.{not_so}
use Rattle.sm_reference_rules.specs.declared.finite.Known.{Known}
use Rattle.sm_rules.specs.Shapes.{HasNoFinite}
use Rattle.sm_reference_rules.specs.steps.Finding.{AreFinite, IsUser, Knows, Waits, is_compound, is_infinite}
use Rattle.sm_reference_rules.proofs.FiniteFound.{finite_marked}

-- exactly what has a finite value is marked at the end
pub all_finite : (g : Graph) (known : Known) → Knows g known → Waits g (IsMarked known.marks.items) known → AreFinite g known.marks.items
all_finite g known knows waits = record {
  whole = knows.whole;
  marked = λ k. (
    λ h. let small = marked_within known.marks.items k h in (subst (λ n. k < n) knows.whole small, knows.right k h),
    λ h. finite_marked g known.marks.items (λ n. get_or known.places.items n 0) waits (maps_of g) refl (id_of_number g k) h.1 k h.0 refl,
  );
}

-- relations that are no containers
target_other : Target ≡ Container → ⊥
target_other h = cc

member_other : Member ≡ Container → ⊥
member_other h = cc

member_of_target : (o : Option Entry) (id : List ℕ) → target_in o ≡ Some id
    → (m : MemberEntry) × (o ≡ Some (member_entry m)) × (m.target ≡ id)
member_of_target None id h = absurd (none-some id h)
member_of_target (Some (shape_entry s)) id h = absurd (none-some id h)
member_of_target (Some (member_entry m)) id h = (m, refl, same_Some m.target id h)

-- a shape with a member that targets another is its user
pub user_there : (g : Graph) (back : List (List ℕ)) → AreSteps g true back → (t k : ℕ) (id : List ℕ) → IsShapeNumber g t → IsShapeNumber g k
    → Contains (listed_under (maps_of g) (id_of_number g k)) id → target_under (maps_of g) id ≡ Some (id_of_number g t) → IsUser g back t k
user_there g back are t k id small within listed target =
    let m = maps_of g in
    let e = member_of_target (fin.get m.shapes id) (id_of_number g t) target in
    let n = number_of g id (member_entry e.0, e.1) in
    let there : HasEntry m (id_of_number g n.0) (member_entry e.0) = ap (fin.get m.shapes) n.2 ∙ e.1 in
    let up : IsNeighbor m (id_of_number g n.0) (id_of_number g t) =
    (Target, target_other, (member_entry e.0, there, (refl, e.2), entry_there g t small)) in (
      n.0,
      (are.steps t n.0).1 (small, n.1, up),
      (
        ap is_member_in there,
        (are.steps n.0 k).1
            (n.1, within, home n.0 n.2 (member_entry e.0, there)),
      ),
    )
  where
    home : (n : ℕ) → id_of_number g n ≡ id → IsInGraph (maps_of g) (id_of_number g n)
        → IsNeighbor (maps_of g) (id_of_number g k) (id_of_number g n)
    home n same there =
        by (fin.get (maps_of g).shapes (id_of_number g k)) refl
        (subst (Contains (listed_under (maps_of g) (id_of_number g k))) (sym same) listed)
      where
        by : (o : Option Entry) → fin.get (maps_of g).shapes (id_of_number g k) ≡ o → Contains (listed_in o) (id_of_number g n)
            → IsNeighbor (maps_of g) (id_of_number g k) (id_of_number g n)
        by None is c = absurd (omega (arith, c.1))
        by (Some (shape_entry s)) is c = (Member, member_other, (shape_entry s, is, inl (refl, c), there))
        by (Some (member_entry e)) is c = absurd (omega (arith, c.1))

-- structures and unions
compound_in : (o : Option Entry) → is_compound (kind_in o) ≡ true
    → (s : ShapeEntry) × (o ≡ Some (shape_entry s)) × ((s.kind ≡ Structure) ⊎ (s.kind ≡ Union))
compound_in None h = absurd (apart h)
compound_in (Some (member_entry m)) h = absurd (apart h)
compound_in (Some (shape_entry s)) h = (s, refl, by s.kind h)
  where
    by : (k : Kind) → is_compound (Some k) ≡ true → (k ≡ Structure) ⊎ (k ≡ Union)
    by Structure h = inl refl
    by Union h = inr refl
    by k h = absurd (apart h)

is_compound_kind : (k : Kind) → (k ≡ Structure) ⊎ (k ≡ Union) → is_compound (Some k) ≡ true
is_compound_kind k (inl is) = ap (λ x. is_compound (Some x)) is
is_compound_kind k (inr is) = ap (λ x. is_compound (Some x)) is

module _ (g : Graph) (marks : List Bool) (finite : AreFinite g marks) (k : ℕ) (within : IsShapeNumber g k) where
  abbrev id : List ℕ
  id = id_of_number g k

  abbrev m : GraphMaps
  m = maps_of g

  abbrev rest : Bool
  rest = not (is_prelude_id id) && not (get_or marks k false)

  forth : (e : EventTold) → IsWhere (is_infinite g marks k) (rule_event ShapeInfinite id []) e
      → IsEventAt ShapeInfinite (HasNoFinite m) id e
  forth e h =
      let s = compound_in (fin.get m.shapes id) (and_left (is_compound (kind_under m id)) rest h.0) in
      let own = and_right (is_compound (kind_under m id)) rest h.0 in
      let fresh = not_so (get_or marks k false) (and_right (not (is_prelude_id id)) (not (get_or marks k false)) own) in (
        [],
        record {
          s = s.0;
          own = (s.1, not_so (is_prelude_id id) (and_left (not (is_prelude_id id)) (not (get_or marks k false)) own));
          kind = s.2;
          none = λ has. apart (sym fresh ∙ (finite.marked k).1 (within, has));
          detail_is = refl;
        },
        h.1,
      )

  back : (e : EventTold) → IsEventAt ShapeInfinite (HasNoFinite m) id e → IsWhere (is_infinite g marks k) (rule_event ShapeInfinite id []) e
  back e (detail, h, is) =
      let a : is_compound (kind_under m id) ≡ true = ap (λ o. is_compound (kind_in o)) h.own.0 ∙ is_compound_kind h.s.kind h.kind in
      let b : is_prelude_id id ≡ false = h.own.1 in
      let c : get_or marks k false ≡ false = by (get_or marks k false) refl in
      (λ i. a i && (not (b i) && not (c i)), is ∙ ap (rule_event ShapeInfinite id) h.detail_is)
    where
      by : (b : Bool) → get_or marks k false ≡ b → b ≡ false
      by true is = absurd (h.none ((finite.marked k).0 is).1)
      by false is = refl

  pub infinite_put : (before now : List ModelEvent) → Puts (IsWhere (is_infinite g marks k) (rule_event ShapeInfinite id [])) before now
      → Puts (IsEventAt ShapeInfinite (HasNoFinite m) id) before now
  infinite_put before now h = puts_same _ (IsEventAt ShapeInfinite (HasNoFinite m) id) before now (λ e. (forth e, back e)) h
