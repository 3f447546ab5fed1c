-- Shapes that no service uses, from marks of what the services lead to.
use Rattle.std.proofs.Common.{◌≡◌, ℕ, zero, suc, Bool, true, false, List, [], ◌∷◌, Some, get_or, length, refl, sym, ap, ◌∙◌, subst}
use Rattle.std.specs.Prelude.{◌&&◌, is_some, not}
use Rattle.std.specs.FinMap as fin
use Rattle.std.specs.List.{list_any}
use Rattle.sm_model.specs.EventView.{EventTold}
use Rattle.sm_model.specs.Graphs.{shape_entry, ShapeEntry, GraphMaps}
use Rattle.sm_model.specs.GraphView.{IsShapeNumber, entries_of, maps_of}
use Rattle.sm_model.specs.Reaching.{AreMarks, IsMarked, id_of_number}
use Rattle.sm_model.specs.Relations.{Reaches}
use Rattle.sm_model.specs.declared.event.ModelEvent.{ModelEvent}
use Rattle.sm_model.specs.declared.graph.Graph.{Graph}
use Rattle.sm_model.specs.declared.kind.Kind.{Kind}
use Rattle.sm_model.specs.declared.kind.Kind.TheVariants.{Service}
use Rattle.sm_model.proofs.NumberedIds.{number_of}
use Rattle.sm_model.proofs.Searching.{and_left, and_right}
use Rattle.sm_model.proofs.Worklist.{apart}
use Rattle.sm_select.specs.Images.{AreImage}
use Rattle.sm_compile.specs.Looked.{kind_in, kind_under}
use Rattle.sm_compile.specs.Sound.{trait_in}
use Rattle.sm_compile.specs.TraitIds.{mixin_id, trait_id}
use Rattle.sm_rules.specs.Words.{IsInClosure, IsOwnShape, has_trait}
use Rattle.sm_rules.specs.RuleEvents.{IsEventAt, IsEventOf, Puts, rule_event}
use Rattle.sm_rules.specs.declared.rule.Rule.TheVariants.{ShapeUnused}
use Rattle.sm_rules.specs.Shapes.{IsUnused}
use Rattle.sm_passes.specs.Carrying.{carries}
use Rattle.sm_passes.specs.Owned.{is_own_shape, is_own_service, is_service}
use Rattle.sm_passes.specs.Putting.{IsWhere}
use Rattle.sm_reference_rules.specs.steps.Using.{AreUsed, is_unused, wants_use}
use Rattle.sm_passes.proofs.EventsPut.{puts_none, puts_same}
use Rattle.sm_passes.proofs.OwnShapes.{not_so, own_told, told_own}
use Rattle.sm_passes.proofs.OwnServices.{own_service, service_kind, service_own}

-- some number is marked
any_marked : (marks : List Bool) → list_any (λ (b : Bool). b) marks ≡ true → (k : ℕ) × IsMarked marks k
any_marked [] h = absurd (apart h)
any_marked (true ∷ ms) h = (0, refl)
any_marked (false ∷ ms) h = let r = any_marked ms h in (suc r.0, r.1)

marked_any : (marks : List Bool) (k : ℕ) → IsMarked marks k → list_any (λ (b : Bool). b) marks ≡ true
marked_any [] k h = absurd (apart h)
marked_any (true ∷ ms) k h = refl
marked_any (false ∷ ms) zero h = absurd (apart h)
marked_any (false ∷ ms) (suc k) h = marked_any ms k h

module _ (g : Graph) (services : List Bool)
    (told : AreMarks (length (entries_of g)) (λ k. is_own_service (maps_of g) (id_of_number g k) ≡ true) services) where
  -- what a walk from the services reaches
  pub used_by : (marks : List Bool) → list_any (λ (b : Bool). b) services ≡ true → AreImage g services (Reaches (maps_of g)) marks
      → AreUsed g marks
  used_by marks some image = record {
    whole = image.whole;
    some = let k = any_marked services some in (
      id_of_number g k.0,
      own_service (maps_of g) (id_of_number g k.0)
          ((told.marked k.0).0 k.1).1,
    );
    used = λ k h.
        let from = ((image.marked k).0 h).1 in
        (id_of_number g from.0, (own_service (maps_of g) (id_of_number g from.0) ((told.marked from.0).0 from.1).1, from.2));
    all = λ k within service inside.
        let from = number_of g service (shape_entry inside.0.0, inside.0.1.0) in
        let marked : IsMarked services from.0 =
        (told.marked from.0).1
        (from.1, subst (λ id. is_own_service (maps_of g) id ≡ true) (sym from.2) (service_own (maps_of g) service inside.0)) in
        (image.marked k).1
        (within, (from.0, marked, subst (λ id. Reaches (maps_of g) id (id_of_number g k)) (sym from.2) inside.1));
  }

  -- without a service nothing is told
  pub no_service : list_any (λ (b : Bool). b) services ≡ false → (es : List ModelEvent)
      → Puts (IsEventOf ShapeUnused (IsUnused (maps_of g))) es es
  no_service none es = puts_none (IsEventOf ShapeUnused (IsUnused (maps_of g))) es (λ e h. absurd_of h.2)
    where
      absurd_of : {id detail : List ℕ} → IsUnused (maps_of g) id detail → ⊥
      absurd_of h =
          let at = number_of g h.some_service (shape_entry h.is_service.0, h.is_service.1.0) in
          let marked : IsMarked services at.0 =
          (told.marked at.0).1
          (at.1, subst (λ id. is_own_service (maps_of g) id ≡ true) (sym at.2) (service_own (maps_of g) h.some_service h.is_service)) in
          apart (sym none ∙ marked_any services at.0 marked)

not_false : (b : Bool) → b ≡ false → not b ≡ true
not_false b h = ap not h

-- a shape that wants use
module _ (g : GraphMaps) (id : List ℕ) (s : ShapeEntry) (own : IsOwnShape g id s) where
  trait_there : (trait : List ℕ) → carries g trait id ≡ has_trait trait s.traits
  trait_there trait = ap (λ o. is_some (trait_in trait o)) own.0

  kind_there : is_service (kind_under g id) ≡ is_service (Some s.kind)
  kind_there = ap (λ o. is_service (kind_in o)) own.0

  is_other : (k : Kind) → (k ≡ Service → ⊥) → is_service (Some k) ≡ false
  is_other k h = by (is_service (Some k)) refl
    where
      by : (b : Bool) → is_service (Some k) ≡ b → b ≡ false
      by true is = absurd (h (service_kind k is))
      by false is = refl

  pub wants : (s.kind ≡ Service → ⊥) → has_trait trait_id s.traits ≡ false → has_trait mixin_id s.traits ≡ false → wants_use g id ≡ true
  wants other no_trait no_mixin =
      let a = told_own g id s own in
      let b : is_service (kind_under g id) ≡ false = kind_there ∙ is_other s.kind other in
      let c : carries g trait_id id ≡ false = trait_there trait_id ∙ no_trait in
      let d : carries g mixin_id id ≡ false = trait_there mixin_id ∙ no_mixin in
      λ i. a i && (not (b i) && (not (c i) && not (d i)))

module _ (g : Graph) (marks : List Bool) (use_of : AreUsed g marks) (k : ℕ) (within : IsShapeNumber g k) where
  abbrev id : List ℕ
  id = id_of_number g k

  abbrev m : GraphMaps
  m = maps_of g

  abbrev no_service_there : Bool
  no_service_there = not (is_service (kind_under m id))

  abbrev no_traits : Bool
  no_traits = not (carries m trait_id id) && not (carries m mixin_id id)

  not_used : get_or marks k false ≡ false → (service : List ℕ) → IsInClosure m service id → ⊥
  not_used h service inside = apart (sym h ∙ use_of.all k within service inside)

  forth : (e : EventTold) → IsWhere (is_unused g marks k) (rule_event ShapeUnused id []) e → IsEventAt ShapeUnused (IsUnused m) id e
  forth e h =
      let wanted = and_left (wants_use m id) (not (get_or marks k false)) h.0 in
      let fresh = not_so (get_or marks k false) (and_right (wants_use m id) (not (get_or marks k false)) h.0) in
      let s = own_told m id (and_left (is_own_shape m id) (no_service_there && no_traits) wanted) in
      let rest = and_right (is_own_shape m id) (no_service_there && no_traits) wanted in
      let other = not_so (is_service (kind_under m id)) (and_left no_service_there no_traits rest) in
      let traits = and_right no_service_there no_traits rest in
      let no_trait = not_so (carries m trait_id id) (and_left (not (carries m trait_id id)) (not (carries m mixin_id id)) traits) in
      let no_mixin = not_so (carries m mixin_id id) (and_right (not (carries m trait_id id)) (not (carries m mixin_id id)) traits) in (
        [],
        record {
          s = s.0;
          own = s.1;
          some_service = use_of.some.0;
          is_service = use_of.some.1;
          other = λ is. apart (sym other ∙ kind_there m id s.0 s.1 ∙ ap (λ x. is_service (Some x)) is);
          outside = not_used fresh;
          no_trait = sym (trait_there m id s.0 s.1 trait_id) ∙ no_trait;
          no_mixin = sym (trait_there m id s.0 s.1 mixin_id) ∙ no_mixin;
          detail_is = refl;
        },
        h.1,
      )

  back : (e : EventTold) → IsEventAt ShapeUnused (IsUnused m) id e → IsWhere (is_unused g marks k) (rule_event ShapeUnused id []) e
  back e (detail, h, is) =
      let wanted = wants m id h.s h.own h.other h.no_trait h.no_mixin in
      let fresh : get_or marks k false ≡ false = by (get_or marks k false) refl in
      (λ i. wanted i && not (fresh i), is ∙ ap (rule_event ShapeUnused id) h.detail_is)
    where
      by : (b : Bool) → get_or marks k false ≡ b → b ≡ false
      by true used = let inside = use_of.used k used in absurd (h.outside inside.0 inside.1)
      by false used = refl

  -- what is told where the marks say it is what the rule says
  pub unused_put : (before now : List ModelEvent) → Puts (IsWhere (is_unused g marks k) (rule_event ShapeUnused id [])) before now
      → Puts (IsEventAt ShapeUnused (IsUnused m) id) before now
  unused_put before now h =
      puts_same (IsWhere (is_unused g marks k) (rule_event ShapeUnused id [])) (IsEventAt ShapeUnused (IsUnused m) id) before now
      (λ e. (forth e, back e)) h
