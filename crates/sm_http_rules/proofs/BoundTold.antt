-- What is told of members that are bound to parts of messages is what the rule says.
use Rattle.std.proofs.Common.{◌≡◌, ◌⊎◌, inl, inr, ℕ, Bool, true, false, List, Option, Some, get_or, map, refl, sym, ap, ◌∙◌, subst}
use Rattle.std.specs.Prelude.{◌&&◌, is_some, not}
use Rattle.std.specs.FinMap as fin
use Rattle.std.specs.List.{Contains, list_any}
use Rattle.sm_model.specs.EventView.{EventTold}
use Rattle.sm_model.specs.Graphs.{Entry, shape_entry, member_entry, GraphMaps, MemberEntry, ShapeEntry}
use Rattle.sm_model.specs.GraphView.{AreShapeNumbers, IsShapeNumber, maps_of}
use Rattle.sm_model.specs.Reaching.{id_of_number}
use Rattle.sm_model.specs.Relations.{HasEntry, IsInGraph}
use Rattle.sm_model.specs.declared.event.ModelEvent.{ModelEvent}
use Rattle.sm_model.specs.declared.graph.Graph.{Graph}
use Rattle.sm_model.proofs.Searching.{and_left, and_right}
use Rattle.sm_model.proofs.Worklist.{apart}
use Rattle.sm_select.proofs.MarkedNumbers.{unset}
use Rattle.sm_compile.specs.Looked.{listed_in, listed_under}
use Rattle.sm_compile.specs.Sound.{trait_in}
use Rattle.sm_compile.specs.TraitIds.{http_payload_id}
use Rattle.sm_rules.specs.Bindings.{BoundSide, IsBound, allows_target, an_error, an_input, an_output, binding_id, bindings_of, has_binding}
use Rattle.sm_rules.specs.Bindings.{is_in_document, target_passes, targets}
use Rattle.sm_rules.specs.Http.{IsBoundWrongly, StandsOn, beside_payload, wrong_target}
use Rattle.sm_rules.specs.Words.{IsMemberOf, IsOwnShape}
use Rattle.sm_compile.proofs.ReachedNumbers.{each_number}
use Rattle.sm_compile.proofs.TabledShapes.{mapped_from, mapped_to}
use Rattle.sm_rules.specs.RuleEvents.{IsEventIn, Puts, rule_event}
use Rattle.sm_rules.specs.declared.rule.Rule.TheVariants.{HttpTarget}
use Rattle.sm_http_traits.specs.declared.bindings.BindingKind.{BindingKind}
use Rattle.sm_http_traits.specs.declared.bindings.BindingKind.TheVariants.{Payload}
use Rattle.sm_http_traits.specs.declared.bindings.BindingSide.{BindingSide}
use Rattle.sm_http_traits.specs.declared.bindings.BindingSide.TheVariants.{Input, Output, Error}
use Rattle.sm_http_traits.specs.Bindings.{binding_said, bindings_in, side_said}
use Rattle.sm_passes.specs.Owned.{is_own_shape, is_member_in}
use Rattle.sm_passes.specs.Putting.{ToldOf}
use Rattle.sm_passes.proofs.EventsPut.{puts_both, puts_none, puts_same}
use Rattle.sm_http_rules.proofs.HttpBodies.{any_found, found_any}
use Rattle.sm_passes.proofs.OwnShapes.{member_in, not_so, own_told, told_own}
use Rattle.sm_http_rules.specs.declared.sides.Sides.{Sides}
use Rattle.sm_http_rules.specs.steps.BoundTargets.{HasPayload, IsBesideTold, IsTargetTold, ToldBeside, ToldBinding, ToldBoundMember}
use Rattle.sm_http_rules.specs.steps.BoundTargets.{ToldOnSide, has_payload, home_of_binding, is_bound_by, is_in_document_at, marks_of}
use Rattle.sm_http_rules.specs.steps.LeftOut.{AreLeading}
use Rattle.sm_http_rules.specs.Sides.{AreOnSide, AreSides}
use Rattle.sm_http_rules.proofs.LeftOutLed.{leads_by_target}

both_true : (a b : Bool) → a ≡ true → b ≡ true → (a && b) ≡ true
both_true a b h k = ap (λ x. x && b) h ∙ k

-- the lists of the code are those of the definition
said_bindings : (side : BindingSide) → map binding_said (bindings_in side) ≡ bindings_of (side_said side)
said_bindings Input = refl
said_bindings Output = refl
said_bindings Error = refl

pub side_marks : (g : Graph) (sides : Sides) → AreSides g sides → (side : BindingSide) → AreOnSide g (side_said side) (marks_of sides side)
side_marks g sides are Input = are.are_inputs
side_marks g sides are Output = are.are_outputs
side_marks g sides are Error = are.are_errors

-- at a member the tests are those of the definition
module _ (g : GraphMaps) (id : List ℕ) (m : MemberEntry) (has : HasEntry g id (member_entry m)) where
  bound_at : (b : BindingKind) → is_bound_by g b id ≡ has_binding m.traits (binding_said b)
  bound_at b = ap (λ (o : Option Entry). is_member_in o && is_some (trait_in (binding_id (binding_said b)) o)) has

  document_at : (side : BindingSide) → is_in_document_at g side id ≡ is_in_document (side_said side) m.traits
  document_at side =
      ap (λ (o : Option Entry). is_member_in o && not (list_any (λ b. is_some (trait_in (binding_id (binding_said b)) o))
      (bindings_in side))) has
      ∙ same side
    where
      same : (side : BindingSide)
          → not (list_any (λ b. is_some (trait_in (binding_id (binding_said b)) (Some (member_entry m)))) (bindings_in side))
          ≡ is_in_document (side_said side) m.traits
      same Input = refl
      same Output = refl
      same Error = refl

-- a member, by number
module _ (g : Graph) (leading : List Bool) (are : AreLeading g leading) (side : BindingSide) (k : ℕ) (small : IsShapeNumber g k) where
  target_told : (e : EventTold) → ToldOf (ToldBinding g leading k) (bindings_in side) e
      → (m : MemberEntry) × HasEntry (maps_of g) (id_of_number g k) (member_entry m)
      × IsTargetTold (maps_of g) (side_said side) (id_of_number g k) m e
  target_told e (b, among, (wrong, is)) =
      let maps = maps_of g in
      let id = id_of_number g k in
      let bound = and_left (is_bound_by maps b id) _ wrong in
      let rest = and_right (is_bound_by maps b id) _ wrong in
      let m = member_in (fin.get maps.shapes id) (and_left (is_member_in (fin.get maps.shapes id)) _ bound) in
      let unmarked = not_so (get_or leading k false) (and_left (not (get_or leading k false)) _ rest) in
      let refused = not_so (targets (allows_target maps (binding_said b)) maps id) (and_right (not (get_or leading k false)) _ rest) in (
        m.0,
        m.1,
        (
          binding_said b,
          subst (λ bs. Contains bs (binding_said b)) (said_bindings side) (mapped_to binding_said (bindings_in side) b among),
          sym (bound_at maps id m.0 m.1 b) ∙ bound,
          λ r. apart (sym unmarked ∙ (are.marked k).1 (small, (leads_by_target maps id m.0 m.1).1 r)),
          sym (ap (target_passes (allows_target maps (binding_said b)) maps) m.1) ∙ refused,
          is,
        ),
      )

  told_target : (m : MemberEntry) → HasEntry (maps_of g) (id_of_number g k) (member_entry m) → (e : EventTold)
      → IsTargetTold (maps_of g) (side_said side) (id_of_number g k) m e → ToldOf (ToldBinding g leading k) (bindings_in side) e
  told_target m there e (x, counts, has, carried, wrong, is) =
      let maps = maps_of g in
      let id = id_of_number g k in
      let b = mapped_from binding_said (bindings_in side) x (subst (λ bs. Contains bs x) (sym (said_bindings side)) counts) in
      let bound = bound_at maps id m there b.0 ∙ ap (has_binding m.traits) b.2 ∙ has in
      let unmarked = unset (get_or leading k false)
      (λ marked. carried ((leads_by_target maps id m there).0 ((are.marked k).0 marked).1)) in
      let refused : targets (allows_target maps (binding_said b.0)) maps id ≡ false =
      ap (target_passes (allows_target maps (binding_said b.0)) maps) there
      ∙ ap (λ y. allows_target maps y (fin.get maps.shapes m.target)) b.2 ∙ wrong in (
        b.0,
        b.1,
        (
          both_true (is_bound_by maps b.0 id) _ bound
              (both_true (not (get_or leading k false)) _ (ap not unmarked) (ap not refused)),
          is ∙ ap (λ y. rule_event HttpTarget id (binding_id y)) (sym b.2),
        ),
      )

module _ (g : Graph) (side : BindingSide) (payload : Bool) (k : ℕ) where
  beside_told : (e : EventTold) → ToldBeside g side payload k e
      → (m : MemberEntry) × HasEntry (maps_of g) (id_of_number g k) (member_entry m) × (is_in_document (side_said side) m.traits ≡ true)
      × (payload ≡ true) × (e ≡ rule_event HttpTarget (id_of_number g k) http_payload_id)
  beside_told e (test, is) =
      let maps = maps_of g in
      let id = id_of_number g k in
      let document = and_right payload (is_in_document_at maps side id) test in
      let m = member_in (fin.get maps.shapes id) (and_left (is_member_in (fin.get maps.shapes id)) _ document) in
      (m.0, m.1, sym (document_at maps id m.0 m.1 side) ∙ document, and_left payload _ test, is)

  told_beside : (m : MemberEntry) → HasEntry (maps_of g) (id_of_number g k) (member_entry m) → (e : EventTold)
      → is_in_document (side_said side) m.traits ≡ true → payload ≡ true
      → e ≡ rule_event HttpTarget (id_of_number g k) http_payload_id → ToldBeside g side payload k e
  told_beside m there e document is_payload is =
      (both_true payload _ is_payload (document_at (maps_of g) (id_of_number g k) m there side ∙ document), is)

-- the members of a shape that stands on a side
module _ (g : Graph) (leading : List Bool) (are : AreLeading g leading) (side : BindingSide) (shape : ℕ)
    (own : is_own_shape (maps_of g) (id_of_number g shape) ≡ true) (ks : List ℕ) (numbers : AreShapeNumbers g ks)
    (listed : map (id_of_number g) ks ≡ listed_under (maps_of g) (id_of_number g shape)) where
  abbrev Here : EventTold → Type 0
  Here e = ToldOf (ToldBoundMember g leading side (has_payload (maps_of g) (map (id_of_number g) ks))) ks e

  -- the ids that it lists are those of the numbers
  same_ids : (s : ShapeEntry) → IsOwnShape (maps_of g) (id_of_number g shape) s → map (id_of_number g) ks ≡ s.members
  same_ids s home = listed ∙ ap listed_in home.0

  payload_told : has_payload (maps_of g) (map (id_of_number g) ks) ≡ true → (s : ShapeEntry)
      → IsOwnShape (maps_of g) (id_of_number g shape) s → HasPayload (maps_of g) (id_of_number g shape) s
  payload_told h s home =
      let maps = maps_of g in
      let x = any_found (is_bound_by maps Payload) (map (id_of_number g) ks) h in
      let m = member_in (fin.get maps.shapes x.0) (and_left (is_member_in (fin.get maps.shapes x.0)) _ x.2) in (
        x.0,
        m.0,
        record { home = home; among = subst (λ ids. Contains ids x.0) (same_ids s home) x.1; there = m.1 },
        sym (bound_at maps x.0 m.0 m.1 Payload) ∙ x.2,
      )

  told_payload : (s : ShapeEntry) → HasPayload (maps_of g) (id_of_number g shape) s
      → has_payload (maps_of g) (map (id_of_number g) ks) ≡ true
  told_payload s (id, m, of, has) =
      found_any (is_bound_by (maps_of g) Payload) (map (id_of_number g) ks) id
      (subst (λ ids. Contains ids id) (sym (same_ids s of.home)) of.among) (bound_at (maps_of g) id m of.there Payload ∙ has)

  module _ (bound : IsBound (maps_of g) (side_said side) (id_of_number g shape)) where
    stands : (s : ShapeEntry) → IsOwnShape (maps_of g) (id_of_number g shape) s → (k : ℕ) → Contains ks k → (m : MemberEntry)
        → HasEntry (maps_of g) (id_of_number g k) (member_entry m)
        → StandsOn (maps_of g) (side_said side) (id_of_number g k) (id_of_number g shape) s m
    stands s home k among m there = record {
      bound = bound;
      member = record {
        home = home;
        among = subst (λ ids. Contains ids (id_of_number g k)) (same_ids s home) (mapped_to (id_of_number g) ks k among);
        there = there;
      };
    }

    side_forth : (e : EventTold) → Here e → ToldOnSide (maps_of g) (side_said side) (id_of_number g shape) e
    side_forth e (k, among, inl told) =
        let s = own_told (maps_of g) (id_of_number g shape) own in
        let x = target_told g leading are side k (each_number g ks numbers k among) e told in
        (id_of_number g k, s.0, x.0, stands s.0 s.1 k among x.0 x.1, inl x.2)
    side_forth e (k, among, inr told) =
        let s = own_told (maps_of g) (id_of_number g shape) own in
        let x = beside_told g side (has_payload (maps_of g) (map (id_of_number g) ks)) k e told in
        (id_of_number g k, s.0, x.0, stands s.0 s.1 k among x.0 x.1, inr (x.2, payload_told x.3 s.0 s.1, x.4))

    side_back : (e : EventTold) → ToldOnSide (maps_of g) (side_said side) (id_of_number g shape) e → Here e
    side_back e (id, s, m, on, told) =
        let k = mapped_from (id_of_number g) ks id
        (subst (λ ids. Contains ids id) (sym (same_ids s on.member.home)) on.member.among) in
        let there : HasEntry (maps_of g) (id_of_number g k.0) (member_entry m) =
        subst (λ i. HasEntry (maps_of g) i (member_entry m)) (sym k.2) on.member.there in (
          k.0,
          k.1,
          by k.0 (each_number g ks numbers k.0 k.1) there
              (subst (λ i. IsTargetTold (maps_of g) (side_said side) i m e
              ⊎ IsBesideTold (maps_of g) (side_said side) (id_of_number g shape) s i m e)
              (sym k.2) told),
        )
      where
        by : (k : ℕ) → IsShapeNumber g k → HasEntry (maps_of g) (id_of_number g k) (member_entry m)
            → IsTargetTold (maps_of g) (side_said side) (id_of_number g k) m e
            ⊎ IsBesideTold (maps_of g) (side_said side) (id_of_number g shape) s (id_of_number g k) m e
            → ToldBoundMember g leading side (has_payload (maps_of g) (map (id_of_number g) ks)) k e
        by k small there (inl t) = inl (told_target g leading are side k small m there e t)
        by k small there (inr (document, payload, is)) =
            inr (told_beside g side (has_payload (maps_of g) (map (id_of_number g) ks)) k m there e document (told_payload s payload) is)

    pub side_put : (a b : List ModelEvent) → Puts Here a b → Puts (ToldOnSide (maps_of g) (side_said side) (id_of_number g shape)) a b
    side_put a b h =
        puts_same Here (ToldOnSide (maps_of g) (side_said side) (id_of_number g shape)) a b (λ e. (side_forth e, side_back e)) h

pub no_side : (g : GraphMaps) (side : BoundSide) (shape : List ℕ) → (IsBound g side shape → ⊥) → (es : List ModelEvent)
    → Puts (ToldOnSide g side shape) es es
no_side g side shape none es = puts_none (ToldOnSide g side shape) es (λ e h. none h.3.bound)

-- all sides
module _ (g : GraphMaps) (shape : List ℕ) where
  abbrev Told : EventTold → Type 0
  Told e = IsEventIn HttpTarget (IsBoundWrongly g) (home_of_binding g) shape e

  to_event : (side : BoundSide) (e : EventTold) → ToldOnSide g side shape e → Told e
  to_event side e (id, s, m, on, inl (b, counts, has, carried, wrong, is)) = (
    id,
    binding_id b,
    wrong_target b (record {
      side = side;
      shape = shape;
      s = s;
      m = m;
      stands = on;
      counts = counts;
      has = has;
      carried = carried;
      wrong = wrong;
    }) refl,
    refl,
    is,
  )
  to_event side e (id, s, m, on, inr (document, (other, p, of, has), is)) = (
    id,
    http_payload_id,
    beside_payload (record {
      side = side;
      shape = shape;
      s = s;
      m = m;
      stands = on;
      in_document = document;
      other = other;
      payload = p;
      other_member = of;
      is_payload = has;
    }) refl,
    refl,
    is,
  )

  from_event : (e : EventTold) → Told e → (side : BoundSide) × ToldOnSide g side shape e
  from_event e (id, detail, wrong_target b h d, home, is) = (
    h.side,
    (
      id,
      h.s,
      h.m,
      subst (λ x. StandsOn g h.side id x h.s h.m) home h.stands,
      inl (b, h.counts, h.has, h.carried, h.wrong, is ∙ ap (rule_event HttpTarget id) d),
    ),
  )
  from_event e (id, detail, beside_payload h d, home, is) = (
    h.side,
    (
      id,
      h.s,
      h.m,
      subst (λ x. StandsOn g h.side id x h.s h.m) home h.stands,
      inr (
        h.in_document,
        (h.other, h.payload, subst (λ x. IsMemberOf g x h.s h.other h.payload) home h.other_member, h.is_payload),
        is ∙ ap (rule_event HttpTarget id) d,
      ),
    ),
  )

  abbrev OnEach : EventTold → Type 0
  OnEach e = (ToldOnSide g an_input shape e ⊎ ToldOnSide g an_output shape e) ⊎ ToldOnSide g an_error shape e

  by_side : (side : BoundSide) (e : EventTold) → ToldOnSide g side shape e → OnEach e
  by_side an_input e h = inl (inl h)
  by_side an_output e h = inl (inr h)
  by_side an_error e h = inr h

  each_event : (e : EventTold) → OnEach e → Told e
  each_event e (inl (inl h)) = to_event an_input e h
  each_event e (inl (inr h)) = to_event an_output e h
  each_event e (inr h) = to_event an_error e h

  pub sides_put : (a b c d : List ModelEvent) → Puts (ToldOnSide g an_input shape) a b → Puts (ToldOnSide g an_output shape) b c
      → Puts (ToldOnSide g an_error shape) c d → Puts Told a d
  sides_put a b c d inputs outputs errors =
      puts_same OnEach Told a d (λ e. (each_event e, λ t. let x = from_event e t in by_side x.0 e x.1))
      (puts_both (λ e. ToldOnSide g an_input shape e ⊎ ToldOnSide g an_output shape e) (ToldOnSide g an_error shape) a c d
      (puts_both (ToldOnSide g an_input shape) (ToldOnSide g an_output shape) a b c inputs outputs) errors)

  pub no_events : is_own_shape g shape ≡ false → (es : List ModelEvent) → Puts Told es es
  no_events other es =
      puts_none Told es
      (λ e t. let x = from_event e t in let on = x.1.3 in apart (sym other ∙ told_own g shape x.1.1 on.member.home))

-- the shape is there
pub binding_home : (g : GraphMaps) (id detail : List ℕ) (h : IsBoundWrongly g id detail) → IsInGraph g (home_of_binding g id detail h)
binding_home g id detail (wrong_target b h is) = (shape_entry h.s, h.stands.member.home.0)
binding_home g id detail (beside_payload h is) = (shape_entry h.s, h.stands.member.home.0)
