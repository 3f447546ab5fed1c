-- What members target and bodies refer to, as tests, is what the rule says of them.
use Rattle.std.proofs.Common.{◌≡◌, ◌⊎◌, inl, inr, ℕ, Bool, true, false, List, Option, Some, None, map, refl, sym, ap, ◌∙◌, subst}
use Rattle.std.specs.Prelude.{◌↔◌, codes, is_some, not}
use Rattle.std.specs.FinMap as fin
use Rattle.std.specs.List.{Contains}
use Rattle.std.specs.Str.{bytes_eq}
use Rattle.std.proofs.lemmas.Option.{none-some, same_Some}
use Rattle.std.proofs.lemmas.Slice.Eq.{bytes_eq-Decides}
use Rattle.sm_model.specs.EventView.{EventTold}
use Rattle.sm_model.specs.GraphView.{IsShapeNumber, maps_of}
use Rattle.sm_model.specs.Graphs.{Entry, shape_entry, member_entry, ShapeEntry, MemberEntry, GraphMaps, member_id}
use Rattle.sm_model.specs.PreludeShapes.{unit_id}
use Rattle.sm_model.specs.Reaching.{id_of_number}
use Rattle.sm_model.specs.Relations.{HasEntry}
use Rattle.sm_model.specs.declared.event.ModelEvent.{ModelEvent}
use Rattle.sm_model.specs.declared.graph.Graph.{Graph}
use Rattle.sm_model.specs.declared.kind.Kind.{Kind}
use Rattle.sm_model.specs.declared.relation.Relation.{Relation}
use Rattle.sm_model.specs.declared.relation.Relation.TheVariants.{Member, Container, Target, Input, Output, Error, Operation, Resource}
use Rattle.sm_model.specs.declared.relation.Relation.TheVariants.{Identifier, Property}
use Rattle.sm_model.proofs.GraphFacts.{entry_under, id_at}
use Rattle.sm_model.proofs.LinkNumbers.{stands_at}
use Rattle.sm_model.proofs.Worklist.{apart}
use Rattle.sm_compile.specs.Looked.{is_unit, kind_in, kind_under, listed_in, listed_under, target_in, target_under, targets_unit}
use Rattle.sm_compile.specs.Sound.{trait_in}
use Rattle.sm_compile.specs.TraitIds.{error_id}
use Rattle.sm_rules.specs.Targets.{BodyRefersToOther, RefersToOther, TargetsOther, by_body, by_member, is_key, may_be_in_body}
use Rattle.sm_rules.specs.Targets.{may_be_referred, may_be_target, may_be_targeted}
use Rattle.sm_rules.specs.Words.{has_trait}
use Rattle.sm_compile.proofs.OneWay.{one_name}
use Rattle.sm_compile.proofs.TabledShapes.{mapped_from, mapped_to}
use Rattle.sm_rules.specs.RuleEvents.{IsEventIn, IsEventOf, Puts, rule_event}
use Rattle.sm_rules.specs.declared.rule.Rule.TheVariants.{TargetKind}
use Rattle.sm_passes.specs.Putting.{IsWhere, ToldOf}
use Rattle.sm_passes.proofs.EventsPut.{puts_both, puts_none, puts_same}
use Rattle.sm_passes.proofs.OwnShapes.{not_so}
use Rattle.sm_reference_rules.specs.steps.References.{ToldByBodies}
use Rattle.sm_passes.specs.Owned.{own_kind}
use Rattle.sm_reference_rules.specs.steps.Targets.{ToldMember, ToldReferred, ToldTarget, may_be_of, may_be_where, may_stand_where}
use Rattle.sm_passes.proofs.OwnKinds.{is_own_kind, own_shape}

one_test : (b c : Bool) → (b ≡ true → c ≡ true) → (c ≡ true → b ≡ true) → b ≡ c
one_test true c on back = sym (on refl)
one_test false true on back = back refl
one_test false false on back = refl

-- a member's id is that of the key exactly where its name is `key`
pub key_named : (shape id name : List ℕ) → id ≡ member_id shape name → bytes_eq name (codes "key") ≡ is_key shape id
key_named shape id name is =
    let key = member_id shape (codes "key") in
    one_test (bytes_eq name (codes "key")) (is_key shape id)
    (λ h. (bytes_eq-Decides id key).1 (is ∙ ap (member_id shape) ((bytes_eq-Decides name (codes "key")).0 h)))
    (λ h. (bytes_eq-Decides name (codes "key")).1 (one_name shape name (codes "key") (sym is ∙ (bytes_eq-Decides id key).0 h)))

pub not_named : (shape id : List ℕ) → ((name : List ℕ) → id ≡ member_id shape name → ⊥) → false ≡ is_key shape id
not_named shape id none =
    one_test false (is_key shape id) (λ h. absurd (apart h))
    (λ h. absurd (none (codes "key") ((bytes_eq-Decides id (member_id shape (codes "key"))).0 h)))

-- what stands at a number
pub entry_at : (g : Graph) (k : ℕ) → IsShapeNumber g k → (e : Entry) × HasEntry (maps_of g) (id_of_number g k) e
entry_at g k within =
    let s = stands_at g k within in
    (s.1, subst (λ i. HasEntry (maps_of g) i s.1) (sym (id_at g k s.0 s.1 s.2)) (entry_under g k s.0 s.1 s.2))

-- what a member may target, by the type of a shape, and where it is a member
pub shape_stands : (home : Kind) (key unit : Bool) (kind : Kind) (o : Option Entry) → kind_in o ≡ Some kind
    → may_be_target home key unit kind ≡ may_stand_where home key unit o
shape_stands home key unit kind None h = absurd (none-some kind h)
shape_stands home key unit kind (Some (shape_entry s)) h = ap (may_be_target home key unit) (sym (same_Some s.kind kind h))
shape_stands home key unit kind (Some (member_entry m)) h = absurd (none-some kind h)

member_stands : (home : Kind) (key unit : Bool) (e : Entry) → kind_in (Some e) ≡ None → false ≡ may_be_targeted home key unit e
member_stands home key unit (shape_entry s) h = absurd (none-some s.kind (sym h))
member_stands home key unit (member_entry m) h = refl

pub no_shape_stands : (g : Graph) (k : ℕ) → IsShapeNumber g k → (home : Kind) (key unit : Bool)
    → kind_under (maps_of g) (id_of_number g k) ≡ None
    → false ≡ may_stand_where home key unit (fin.get (maps_of g).shapes (id_of_number g k))
no_shape_stands g k within home key unit none =
    let e = entry_at g k within in
    member_stands home key unit e.0 (sym (ap kind_in e.1) ∙ none) ∙ ap (may_stand_where home key unit) (sym e.1)

-- what a body may refer to
of_shape : (relation : Relation) (s : ShapeEntry) → may_be_of relation s.kind (has_trait error_id s.traits) ≡ may_be_referred relation s
of_shape Member s = refl
of_shape Container s = refl
of_shape Target s = refl
of_shape Input s = refl
of_shape Output s = refl
of_shape Error s = refl
of_shape Operation s = refl
of_shape Resource s = refl
of_shape Identifier s = refl
of_shape Property s = refl

pub shape_referred : (relation : Relation) (kind : Kind) (o : Option Entry) → kind_in o ≡ Some kind
    → may_be_of relation kind (is_some (trait_in error_id o)) ≡ may_be_where relation o
shape_referred relation kind None h = absurd (none-some kind h)
shape_referred relation kind (Some (shape_entry s)) h =
    ap (λ k. may_be_of relation k (has_trait error_id s.traits)) (sym (same_Some s.kind kind h)) ∙ of_shape relation s
shape_referred relation kind (Some (member_entry m)) h = absurd (none-some kind h)

member_referred : (relation : Relation) (e : Entry) → kind_in (Some e) ≡ None → false ≡ may_be_in_body relation e
member_referred relation (shape_entry s) h = absurd (none-some s.kind (sym h))
member_referred relation (member_entry m) h = refl

pub no_shape_referred : (g : Graph) (k : ℕ) → IsShapeNumber g k → (relation : Relation)
    → kind_under (maps_of g) (id_of_number g k) ≡ None → false ≡ may_be_where relation (fin.get (maps_of g).shapes (id_of_number g k))
no_shape_referred g k within relation none =
    let e = entry_at g k within in
    member_referred relation e.0 (sym (ap kind_in e.1) ∙ none) ∙ ap (may_be_where relation) (sym e.1)

-- what is told of a member
module _ (g : Graph) (home : Kind) (shape n : ℕ) where
  abbrev its_key : Bool
  its_key = is_key (id_of_number g shape) (id_of_number g n)

  pub target_put : (to : ℕ) → target_under (maps_of g) (id_of_number g n) ≡ Some (id_of_number g to) → (other : Bool) (detail : List ℕ)
      → detail ≡ id_of_number g to
      → other ≡ not (may_stand_where home its_key (targets_unit (maps_of g) (id_of_number g n)) (fin.get (maps_of g).shapes
      (id_of_number g to)))
      → (a b : List ModelEvent) → Puts (IsWhere other (rule_event TargetKind (id_of_number g n) detail)) a b
      → Puts (ToldMember g home shape n) a b
  target_put to there other detail text is a b h =
      let found = fin.get (maps_of g).shapes (id_of_number g to) in
      let test : other ≡ not (may_stand_where home its_key (bytes_eq (id_of_number g to) unit_id) found) =
      is ∙ ap (λ u. not (may_stand_where home its_key (is_unit u) found)) there in
      subst (λ o. Puts (ToldTarget (maps_of g) home (id_of_number g shape) (id_of_number g n) o) a b) (sym there)
      (subst (λ w. Puts (IsWhere w (rule_event TargetKind (id_of_number g n) (id_of_number g to))) a b) test
      (subst (λ t. Puts (IsWhere other (rule_event TargetKind (id_of_number g n) t)) a b) text h))

  pub no_target : ((id : List ℕ) → target_under (maps_of g) (id_of_number g n) ≡ Some id → fin.get (maps_of g).shapes id ≡ None)
      → (es : List ModelEvent) → Puts (ToldMember g home shape n) es es
  no_target none es =
      puts_none (ToldMember g home shape n) es (λ e t. by (target_under (maps_of g) (id_of_number g n)) none e t)
    where
      by : (o : Option (List ℕ)) → ((id : List ℕ) → o ≡ Some id → fin.get (maps_of g).shapes id ≡ None) → (e : EventTold)
          → ToldTarget (maps_of g) home (id_of_number g shape) (id_of_number g n) o e → ⊥
      by None f e t = t
      by (Some id) f e t =
          apart (subst (λ x. not (may_stand_where home its_key (bytes_eq id unit_id) x) ≡ true) (f id refl) t.0)

-- what is told of the members of a shape is what the rule says of them
pub target_from : (o : Option Entry) (target : List ℕ) → target_in o ≡ Some target
    → (m : MemberEntry) × (o ≡ Some (member_entry m)) × (m.target ≡ target)
target_from None target h = absurd (none-some target h)
target_from (Some (shape_entry s)) target h = absurd (none-some target h)
target_from (Some (member_entry m)) target h = (m, refl, same_Some m.target target h)

other_there : (home : Kind) (key unit : Bool) (o : Option Entry) → not (may_stand_where home key unit o) ≡ true
    → (e : Entry) × (o ≡ Some e) × (may_be_targeted home key unit e ≡ false)
other_there home key unit None h = absurd (apart h)
other_there home key unit (Some e) h = (e, refl, not_so (may_be_targeted home key unit e) h)

module _ (g : Graph) (k : ℕ) where
  abbrev pub AtShape : EventTold → Type 0
  AtShape e = IsEventIn TargetKind (TargetsOther (maps_of g)) (λ from id h. h.shape) (id_of_number g k) e

  module _ (home : Kind) (own : own_kind (maps_of g) (id_of_number g k) ≡ Some home) (ns : List ℕ)
      (listed : map (id_of_number g) ns ≡ listed_under (maps_of g) (id_of_number g k)) where
    forth : (e : EventTold) → ToldOf (ToldMember g home k) ns e → AtShape e
    forth e told = by told.0 told.1 (target_under (maps_of g) (id_of_number g told.0)) refl told.2
      where
        by : (n : ℕ) → Contains ns n → (o : Option (List ℕ)) → target_under (maps_of g) (id_of_number g n) ≡ o
            → ToldTarget (maps_of g) home (id_of_number g k) (id_of_number g n) o e → AtShape e
        by n among None is t = absurd t
        by n among (Some target) is t =
            let shape = id_of_number g k in
            let from = id_of_number g n in
            let s = own_shape (maps_of g) shape home own in
            let m = target_from (fin.get (maps_of g).shapes from) target is in
            let x = other_there home (is_key shape from) (bytes_eq target unit_id) (fin.get (maps_of g).shapes target) t.0 in
            let ids : map (id_of_number g) ns ≡ s.0.members = listed ∙ ap listed_in s.1.0 in (
              from,
              target,
              record {
                shape = shape;
                s = s.0;
                m = m.0;
                member = record {
                  home = s.1;
                  among = subst (λ xs. Contains xs from) ids (mapped_to (id_of_number g) ns n among);
                  there = m.1;
                };
                targets = m.2;
                e = x.0;
                there = x.1;
                may_not = ap (λ kind. may_be_targeted kind (is_key shape from) (bytes_eq target unit_id) x.0) s.2 ∙ x.2;
              },
              refl,
              t.1,
            )

    back : (e : EventTold) → AtShape e → ToldOf (ToldMember g home k) ns e
    back e (from, id, h, same, is) =
        let there : HasEntry (maps_of g) (id_of_number g k) (shape_entry h.s) =
        subst (λ x. HasEntry (maps_of g) x (shape_entry h.s)) same h.member.home.0 in
        let ids : h.s.members ≡ map (id_of_number g) ns = sym (ap listed_in there) ∙ sym listed in
        let r = mapped_from (id_of_number g) ns from (subst (λ xs. Contains xs from) ids h.member.among) in
        let kind : h.s.kind ≡ home =
        same_Some h.s.kind home
        (sym (is_own_kind (maps_of g) h.shape h.s h.member.home) ∙ ap (own_kind (maps_of g)) same ∙ own) in
        let target : target_under (maps_of g) from ≡ Some id = ap target_in h.member.there ∙ ap Some h.targets in
        let other : not (may_stand_where home (is_key (id_of_number g k) from) (bytes_eq id unit_id) (fin.get
        (maps_of g).shapes id)) ≡ true =
        ap (λ o. not (may_stand_where home (is_key (id_of_number g k) from) (bytes_eq id unit_id) o)) h.there
        ∙ (λ i. not (may_be_targeted (sym kind i) (is_key (sym same i) from) (bytes_eq id unit_id) h.e)) ∙ ap not h.may_not in
        let here : ToldTarget (maps_of g) home (id_of_number g k) from (Some id) e = (other, is) in
        let mine : ToldTarget (maps_of g) home (id_of_number g k) from (target_under (maps_of g) from) e =
        subst (λ o. ToldTarget (maps_of g) home (id_of_number g k) from o e) (sym target) here in (
          r.0,
          r.1,
          subst (λ x. ToldTarget (maps_of g) home (id_of_number g k) x (target_under (maps_of g) x) e) (sym r.2) mine,
        )

    pub members_put : (a b : List ModelEvent) → Puts (ToldOf (ToldMember g home k) ns) a b → Puts AtShape a b
    members_put a b h = puts_same (ToldOf (ToldMember g home k) ns) AtShape a b (λ e. (forth e, back e)) h

  pub no_members : own_kind (maps_of g) (id_of_number g k) ≡ None → (es : List ModelEvent) → Puts AtShape es es
  no_members none es =
      puts_none AtShape es
      (λ e t. none-some t.2.s.kind (sym none ∙ ap (own_kind (maps_of g)) (sym t.3)
      ∙ is_own_kind (maps_of g) t.2.shape t.2.s t.2.member.home))

-- what is told of a reference
module _ (g : Graph) (from : ℕ) (relation : Relation) (id : List ℕ) where
  pub reference_put : (to : ℕ) → id_of_number g to ≡ id → (other : Bool)
      → other ≡ not (may_be_where relation (fin.get (maps_of g).shapes (id_of_number g to))) → (a b : List ModelEvent)
      → Puts (IsWhere other (rule_event TargetKind (id_of_number g from) id)) a b
      → Puts (ToldReferred (maps_of g) (id_of_number g from) relation id) a b
  reference_put to named other is a b h =
      let test : other ≡ not (may_be_where relation (fin.get (maps_of g).shapes id)) =
      is ∙ ap (λ x. not (may_be_where relation (fin.get (maps_of g).shapes x))) named in
      subst (λ w. Puts (IsWhere w (rule_event TargetKind (id_of_number g from) id)) a b) test h

  pub no_reference : fin.get (maps_of g).shapes id ≡ None → (es : List ModelEvent)
      → Puts (ToldReferred (maps_of g) (id_of_number g from) relation id) es es
  no_reference none es =
      puts_none (ToldReferred (maps_of g) (id_of_number g from) relation id) es
      (λ e t. apart (subst (λ o. not (may_be_where relation o) ≡ true) none t.0))

-- all that bodies refer to, and all that members target
module _ (g : GraphMaps) where
  wrong_there : (relation : Relation) (o : Option Entry) → not (may_be_where relation o) ≡ true
      → (e : Entry) × (o ≡ Some e) × (may_be_in_body relation e ≡ false)
  wrong_there relation None h = absurd (apart h)
  wrong_there relation (Some e) h = (e, refl, not_so (may_be_in_body relation e) h)

  bodies_told : (e : EventTold) → ToldByBodies g (ToldReferred g) e ↔ IsEventOf TargetKind (BodyRefersToOther g) e
  bodies_told e = (
    λ h.
        let said = h.3 in
        let told = said.3 in
        let x = wrong_there said.0 (fin.get g.shapes said.1) told.0 in (
          h.0,
          said.1,
          record { s = h.1; own = h.2; relation = said.0; says = said.2; e = x.0; there = x.1; may_not = x.2 },
          told.1,
        ),
    λ h.
        let r = h.2 in
        let test : not (may_be_where r.relation (fin.get g.shapes h.1)) ≡ true =
        ap (λ o. not (may_be_where r.relation o)) r.there ∙ ap not r.may_not in
        (h.0, r.s, r.own, (r.relation, h.1, r.says, (test, h.3))),
  )

  both_told : (e : EventTold)
      → (IsEventOf TargetKind (TargetsOther g) e ⊎ ToldByBodies g (ToldReferred g) e) ↔ IsEventOf TargetKind (RefersToOther g) e
  both_told e = (
    λ h. elim h [
      | inl t ↦ (t.0, t.1, by_member t.2, t.3)
      | inr b ↦ let t = (bodies_told e).0 b in (t.0, t.1, by_body t.2, t.3)
    ],
    λ h. by h.0 h.1 h.2 h.3,
  )
    where
      by : (from id : List ℕ) → RefersToOther g from id → e ≡ rule_event TargetKind from id
          → IsEventOf TargetKind (TargetsOther g) e ⊎ ToldByBodies g (ToldReferred g) e
      by from id (by_member t) is = inl (from, id, t, is)
      by from id (by_body t) is = inr ((bodies_told e).1 (from, id, t, is))

  pub kinds_put : (a b c : List ModelEvent) → Puts (IsEventOf TargetKind (TargetsOther g)) a b → Puts (ToldByBodies g (ToldReferred g)) b c
      → Puts (IsEventOf TargetKind (RefersToOther g)) a c
  kinds_put a b c h k =
      puts_same (λ e. IsEventOf TargetKind (TargetsOther g) e ⊎ ToldByBodies g (ToldReferred g) e) (IsEventOf TargetKind
      (RefersToOther g)) a c
      both_told
      (puts_both (IsEventOf TargetKind (TargetsOther g)) (ToldByBodies g (ToldReferred g)) a b c h k)
