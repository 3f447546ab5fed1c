-- Where members and targets lead to a value that isn't carried, a way leads to it.
use Rattle.std.proofs.Common.{◌≡◌, ◌⊎◌, inl, inr, ℕ, Bool, true, false, not, ◌&&◌, List, [], ◌∷◌, map, Some, refl, sym, ap, subst}
use Rattle.std.proofs.Common.{◌∙◌, arith, bytes_eq}
use Rattle.std.specs.Prelude.{cond}
use Rattle.std.specs.List.{Contains}
use Rattle.std.proofs.lemmas.Option.{none-some}
use Rattle.std.proofs.lemmas.Slice.Eq.{bytes_eq-Decides}
use Rattle.sm_model.specs.Formed.{HaveForm}
use Rattle.sm_model.specs.Graphs.{Entry, GraphMaps, MemberEntry, ShapeEntry, member_entry, member_id, shape_entry}
use Rattle.sm_model.specs.Kinds.{member_form}
use Rattle.sm_model.specs.PreludeShapes.{unit_id, unit_shape}
use Rattle.sm_model.specs.Relations.{HasEntry, SaysRelated, field_relations, relation_under}
use Rattle.sm_model.specs.declared.kind.Kind.{Kind}
use Rattle.sm_model.specs.declared.kind.Kind.TheVariants as model
use Rattle.sm_model.specs.declared.relation.Relation.{Relation}
use Rattle.sm_model.specs.declared.relation.Relation.TheVariants.{Member, Target}
use Rattle.sm_model.proofs.LinkedEntries.{cons_cases}
use Rattle.sm_model.proofs.NumberedIds.{one_entry}
use Rattle.sm_model.proofs.OneRising.{contains_none}
use Rattle.sm_model.proofs.Worklist.{apart}
use Rattle.sm_shapes.specs.declared.kinds.ShapeKind.{ShapeKind}
use Rattle.sm_shapes.specs.declared.kinds.ShapeKind.TheVariants as table
use Rattle.sm_compile.specs.Kinds.{has_value_members, has_values, is_left_out, may_target, table_kind, value_members}
use Rattle.sm_compile.specs.Reached.{LeadsBy, LeadsTo}
use Rattle.sm_compile.specs.Served.{IsLeftOut, IsWay, WayStep}
use Rattle.sm_compile.specs.Sound.{AreSoundMembers, IsSoundMember, IsSoundShape}
use Rattle.sm_compile.proofs.SoundTests.{first_of}
use Rattle.sm_rules.specs.Ready.{IsOfService, Ready}
use Rattle.sm_rules.specs.Words.{IsService}
use Rattle.sm_accepted.proofs.ClosedSets.{service_closed}
use Rattle.sm_accepted.proofs.FormedShapes.{prelude_is}
use Rattle.sm_accepted.proofs.ReadyGraphs.{sound_ready}
use Rattle.sm_service.proofs.BareShapes.{bare_of_prelude}
use Rattle.sm_service.proofs.ServableRows.{place_of}
use Rattle.sm_service.proofs.ServiceReached.{no_member}

-- a shape with values, of the service
pub record IsKnown (g : GraphMaps) (service id : List ℕ) (s : ShapeEntry) : Type 0 where
  pub there : HasEntry g id (shape_entry s)
  pub inside : IsOfService g service id
  pub values : has_values s.kind ≡ true

one_shape : (s t : ShapeEntry) → shape_entry s ≡ shape_entry t → s ≡ t
one_shape s t h = cc

-- what has values has no field that refers to another
no_fields : (kind : Kind) → has_values kind ≡ true → field_relations kind ≡ []
no_fields model.Service h = absurd (apart h)
no_fields model.Operation h = absurd (apart h)
no_fields model.Resource h = absurd (apart h)
no_fields kind h = refl

no_body : (s : ShapeEntry) → has_values s.kind ≡ true → (t : ShapeEntry) → s ≡ t → (name : List ℕ) (relation : Relation)
    → relation_under name (field_relations t.kind) ≡ Some relation → ⊥
no_body s values t same name relation h =
    none-some relation (sym (ap (relation_under name) (no_fields t.kind (sym (ap (λ (x : ShapeEntry). has_values x.kind) same) ∙ values)))
    ∙ h)

-- what a kind says of its members
record SaysOfMembers (kind : Kind) : Type 0 where
  pub values : has_value_members kind ≡ true
  pub targets : (u : Bool) (k : Kind) → may_target kind u k ≡ true → has_values k ≡ true

abbrev OnlyUnit : Kind → Type 0
OnlyUnit kind = (u : Bool) (k : Kind) → may_target kind u k ≡ true → u ≡ true

plain : (u : Bool) (k : Kind) → (has_values k && not u) ≡ true → has_values k ≡ true
plain u k h = first_of (has_values k) (not u) h

member_kinds : (kind : Kind) (names : List (List ℕ)) → HaveForm (member_form kind) names → (names ≡ [] → ⊥)
    → SaysOfMembers kind ⊎ OnlyUnit kind
member_kinds model.List names form some = inl (record { values = refl; targets = plain })
member_kinds model.Map names form some = inl (record { values = refl; targets = plain })
member_kinds model.Structure names form some = inl (record { values = refl; targets = plain })
member_kinds model.Union names form some = inl (record { values = refl; targets = λ u k h. h })
member_kinds model.Enum names form some = inr (λ u k h. h)
member_kinds model.IntEnum names form some = inr (λ u k h. h)
member_kinds kind names form some = absurd (some form)

abbrev pub target_in_entry : Entry → List ℕ
target_in_entry (shape_entry s) = []
target_in_entry (member_entry m) = m.target

pub sound_member : (g : GraphMaps) (kind : Kind) (ids : List (List ℕ)) → AreSoundMembers g kind ids → (id : List ℕ) → Contains ids id
    → IsSoundMember g kind id
sound_member g kind [] h id among = absurd (contains_none id among)
sound_member g kind (x ∷ ids) h id among = elim (cons_cases x ids id among) [
  | inl is ↦ subst (IsSoundMember g kind) is h.0
  | inr later ↦ sound_member g kind ids h.1 id later
]

name_of : (shape : List ℕ) (names : List (List ℕ)) (id : List ℕ) → Contains (map (member_id shape) names) id
    → (name : List ℕ) × (id ≡ member_id shape name)
name_of shape [] id h = absurd (contains_none id h)
name_of shape (n ∷ names) id h = elim (cons_cases (member_id shape n) (map (member_id shape) names) id h) [
  | inl is ↦ (n, sym is)
  | inr later ↦ name_of shape names id later
]

not_left_out : (k : ShapeKind) → is_left_out k ≡ false → k ≡ table.LeftOut → ⊥
not_left_out k other is = apart (sym other ∙ ap is_left_out is)

module _ (g : GraphMaps) (service : List ℕ) (is : IsService g service) (ready : Ready g service) where
  pub sound_known : (id : List ℕ) (s : ShapeEntry) → IsKnown g service id s → IsSoundShape g id s
  sound_known id s k = sound_ready g service is ready id k.inside (s, k.there, k.values) id s ([], refl) k.there

  -- a step from a shape is to a member of it, and from a member to its target
  to_member : (from next : List ℕ) (s : ShapeEntry) → has_values s.kind ≡ true → HasEntry g from (shape_entry s) → LeadsTo g from next
      → Contains s.members next
  to_member from next s values there (inl led) = by led.0 (one_entry g from (shape_entry s) led.0 there led.1) led.2
    where
      by : (e : Entry) → shape_entry s ≡ e → SaysRelated Member e next → Contains s.members next
      by (shape_entry t) same (inl among) = subst (λ (x : ShapeEntry). Contains x.members next) (sym (one_shape s t same)) among.1
      by (shape_entry t) same (inr body) = absurd (no_body s values t (one_shape s t same) body.0 Member body.3)
      by (member_entry m) same says = let e : Member ≡ Target = says.0 in absurd cc
  to_member from next s values there (inr led) = by led.0 (one_entry g from (shape_entry s) led.0 there led.1) led.2
    where
      by : (e : Entry) → shape_entry s ≡ e → SaysRelated Target e next → Contains s.members next
      by (shape_entry t) same (inl among) = let e : Target ≡ Member = among.0 in absurd cc
      by (shape_entry t) same (inr body) = absurd (no_body s values t (one_shape s t same) body.0 Target body.3)
      by (member_entry m) same says = absurd cc

  to_target : (from next : List ℕ) (m : MemberEntry) → HasEntry g from (member_entry m) → LeadsTo g from next → m.target ≡ next
  to_target from next m there (inl led) = by led.0 (one_entry g from (member_entry m) led.0 there led.1) led.2
    where
      by : (e : Entry) → member_entry m ≡ e → SaysRelated Member e next → m.target ≡ next
      by (shape_entry t) same says = absurd cc
      by (member_entry x) same says = let e : Member ≡ Target = says.0 in absurd cc
  to_target from next m there (inr led) = by led.0 (one_entry g from (member_entry m) led.0 there led.1) led.2
    where
      by : (e : Entry) → member_entry m ≡ e → SaysRelated Target e next → m.target ≡ next
      by (shape_entry t) same says = absurd cc
      by (member_entry x) same says = ap target_in_entry same ∙ says.1

  -- the target of a member of a known shape is known
  pub known_target : (id : List ℕ) (s : ShapeEntry) → IsKnown g service id s → (member : List ℕ) → Contains s.members member
      → (x : IsSoundMember g s.kind member) → has_values x.target.kind ≡ true → IsKnown g service x.m.target x.target
  known_target id s k member among x values =
      let closed = service_closed g service is in
      let at_member = closed id member k.inside (inl (shape_entry s, k.there, inl (refl, among), (member_entry x.m, x.there))) in
      record {
        there = x.found;
        inside = closed member x.m.target at_member (inr (member_entry x.m, x.there, (refl, refl), (shape_entry x.target, x.found)));
        values = values;
      }

  -- the prelude's unit leads nowhere
  unit_ends : (by : List (List ℕ)) (left : List ℕ) (u : ShapeEntry) → HasEntry g unit_id (shape_entry u) → LeadsBy g unit_id by left
      → IsLeftOut g left → ⊥
  unit_ends [] left u there same out =
      let unit = prelude_is g (ready is).formed unit_shape (20, omega arith, refl) out.0
      (subst (λ i. HasEntry g i (shape_entry out.0)) (sym same) out.1) in
      not_left_out (table_kind out.0.kind) (ap (λ (x : ShapeEntry). is_left_out (table_kind x.kind)) unit) out.2
  unit_ends (next ∷ by) left u there led out =
      let unit = prelude_is g (ready is).formed unit_shape (20, omega arith, refl) u there in
      contains_none next (subst (λ ms. Contains ms next) (bare_of_prelude g (ready is).formed unit_id u there refl).0
      (to_member unit_id next u (ap (λ (x : ShapeEntry). has_values x.kind) unit) there led.0))

  pub way_to : (by : List (List ℕ)) (from : List ℕ) (s : ShapeEntry) → IsKnown g service from s → (left : List ℕ) → LeadsBy g from by left
      → IsLeftOut g left → (way : List WayStep) × IsWay g from way
  way_to [] from s k left same out = ([], inl (subst (IsLeftOut g) (sym same) out))
  way_to (next ∷ []) from s k left led out =
      let among = to_member from next s k.values k.there led.0 in
      let x = sound_member g s.kind s.members (sound_known from s k).each next among in
      absurd (no_member g next out.0 x.m (subst (λ i. HasEntry g i (shape_entry out.0)) (sym led.1) out.1) x.there)
  way_to (next ∷ to ∷ more) from s k left led out =
      let among = to_member from next s k.values k.there led.0 in
      let sound = sound_known from s k in
      let x = sound_member g s.kind s.members sound.each next among in
      let aimed : x.m.target ≡ to = to_target next to x.m x.there led.1.0 in
      let on : LeadsBy g x.m.target more left = subst (λ i. LeadsBy g i more left) (sym aimed) led.1.1 in
      let name = name_of from sound.names next (subst (λ ms. Contains ms next) sound.members among) in
      elim (member_kinds s.kind sound.names sound.form (λ empty. contains_none next (subst (λ ms. Contains ms next)
      (sound.members ∙ ap (map (member_id from)) empty) among))) [
        | inl says ↦
            let t = known_target from s k next among x (says.targets (bytes_eq x.m.target unit_id) x.target.kind x.may_target) in
            let rest = way_to more x.m.target x.target t left on out in
            let listed : Contains (value_members s) next =
            subst (λ b. Contains (cond b s.members []) next) (sym says.values) among in
            let at = place_of (value_members s) next listed in (
              record { at = at.0; name = name.0; to = x.m.target } ∷ rest.0,
              (
                record {
                  s = s;
                  there = k.there;
                  at = at.1 ∙ ap Some name.1;
                  m = x.m;
                  member_there = subst (λ i. HasEntry g i (member_entry x.m)) name.1 x.there;
                  is = refl;
                },
                rest.1,
              ),
            )
        | inr unit ↦
            let same : x.m.target ≡ unit_id =
            (bytes_eq-Decides x.m.target unit_id).0 (unit (bytes_eq x.m.target unit_id) x.target.kind x.may_target) in
            absurd (unit_ends more left x.target (subst (λ i. HasEntry g i (shape_entry x.target)) same x.found)
            (subst (λ i. LeadsBy g i more left) same on) out)
      ]
