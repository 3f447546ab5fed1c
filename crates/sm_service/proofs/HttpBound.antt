-- Each binding that counts on a side has a target that it may have, where what the side leads to is served.
use Rattle.std.proofs.Common.{◌≡◌, inl, inr, ℕ, Bool, true, false, List, ◌∷◌, Option, Some, None, refl, sym, ap, subst, ◌∙◌}
use Rattle.std.specs.Prelude.{cond, not}
use Rattle.std.specs.FinMap as fin
use Rattle.std.specs.List.{Contains, list_any}
use Rattle.std.proofs.lemmas.Option.{none-some}
use Rattle.std.proofs.lemmas.Slice.Eq.{bytes_eq-Decides}
use Rattle.sm_model.specs.Graphs.{GraphMaps, ShapeEntry, member_entry, shape_entry}
use Rattle.sm_model.specs.Relations.{HasEntry}
use Rattle.sm_model.specs.declared.kind.Kind.{Kind}
use Rattle.sm_model.specs.declared.kind.Kind.TheVariants as model
use Rattle.sm_model.proofs.NumberedIds.{one_entry}
use Rattle.sm_shapes.specs.TableData.{BindingData}
use Rattle.sm_compile.specs.Compiled.{EachSays}
use Rattle.sm_compile.specs.Kinds.{has_values, may_target}
use Rattle.sm_compile.specs.Reached.{LeadsTo}
use Rattle.sm_compile.specs.Served.{IsServed}
use Rattle.sm_compile.specs.Sound.{IsSoundMember}
use Rattle.sm_compile.proofs.SoundTests.{first_of}
use Rattle.sm_rules.specs.Bindings.{BoundSide, IsBound, allows_target, binding_id, bindings_of, has_binding}
use Rattle.sm_rules.specs.Http.{ReachesLeftOutValue, wrong_target}
use Rattle.sm_rules.specs.Ready.{IsOfService, Ready}
use Rattle.sm_rules.specs.Words.{IsService}
use Rattle.sm_accepted.proofs.ClosedSets.{AreIn}
use Rattle.sm_accepted.proofs.TraitsRight.{must}
use Rattle.sm_service.specs.HttpServable.{HaveTargets}
use Rattle.sm_service.specs.WireMembers.{WireMember, is_bound_by, may_be_bound, trait_bound}
use Rattle.sm_service.specs.steps.WireSaid.{SaysWireMember}
use Rattle.sm_service.proofs.HttpLists.{id_of}
use Rattle.sm_service.proofs.HttpMembers.{bound_is, is_member}
use Rattle.sm_service.proofs.HttpTargets.{allowed, counts_there}
use Rattle.sm_service.proofs.HttpWays.{IsKnown, known_target, sound_known, sound_member, target_in_entry, way_to}

-- what counts is the binding
counted_told : (c : Bool) (o : Option BindingData) (b : BindingData) → cond c o None ≡ Some b → (c ≡ true) × (o ≡ Some b)
counted_told true o b h = (refl, h)
counted_told false o b h = absurd (none-some b h)

structure_target : (home k : Kind) (u : Bool) → home ≡ model.Structure → may_target home u k ≡ true → has_values k ≡ true
structure_target home k u kind may = first_of (has_values k) (not u) (sym (ap (λ h. may_target h u k) kind) ∙ may)

module _ (g : GraphMaps) (service : List ℕ) (is : IsService g service) (ready : Ready g service) (shape : List ℕ) (s : ShapeEntry)
    (home : HasEntry g shape (shape_entry s)) (members_in : AreIn (IsOfService g service) s.members) (inside : IsOfService g service shape)
    (kind : s.kind ≡ model.Structure) (ws : List WireMember) (says : EachSays (SaysWireMember g shape) s.members ws) (side : BoundSide)
    (bound : IsBound g side shape) (served : IsServed g shape) where
  known : IsKnown g service shape s
  known = record { there = home; inside = inside; values = ap has_values kind }

  module _ (id : List ℕ) (w : WireMember) (among : Contains s.members id) (said : SaysWireMember g shape id w) where
    sound : IsSoundMember g s.kind id
    sound = sound_member g s.kind s.members (sound_known g service is ready shape s known).each id among

    aimed : sound.m.target ≡ said.m.target
    aimed = ap target_in_entry (one_entry g id (member_entry sound.m) (member_entry said.m) sound.there said.there)

    known_aim : IsKnown g service said.m.target sound.target
    known_aim =
        subst (λ i. IsKnown g service i sound.target) aimed (known_target g service is ready shape s known id among sound
        (structure_target s.kind sound.target.kind _ kind sound.may_target))

    member_step : LeadsTo g shape id
    member_step = inl (shape_entry s, home, inl (refl, among), (member_entry said.m, said.there))

    target_step : LeadsTo g id said.m.target
    target_step = inr (member_entry said.m, said.there, (refl, refl), (shape_entry sound.target, known_aim.there))

    none_left_out : ReachesLeftOutValue g said.m.target → ⊥
    none_left_out r =
        let w = way_to g service is ready (id ∷ said.m.target ∷ r.2.0) shape s known r.0 (member_step, (target_step, r.2.1))
        (r.1, r.3, r.4) in
        served w.0 w.1

    right : (b : BindingData) → w.binding ≡ Some b → Contains (bindings_of side) (trait_bound b) → may_be_bound b w.target ≡ true
    right b bound_by counts =
        let In = IsOfService g service in
        let f = (ready is).formed in
        let none = (ready is).none in
        let has : has_binding said.m.traits (trait_bound b) ≡ true =
        sym (bound_is g f In none shape s home members_in id w among said (trait_bound b))
        ∙ ap (λ o. is_bound_by o (trait_bound b)) bound_by
        ∙ (bytes_eq-Decides (binding_id (trait_bound b)) (binding_id (trait_bound b))).1 refl in
        let may = must (allows_target g (trait_bound b) (fin.get g.shapes said.m.target)) (λ wrong.
        none.parts id (binding_id (trait_bound b)) (members_in id among) (wrong_target (trait_bound b) (record {
          side = side;
          shape = shape;
          s = s;
          m = said.m;
          stands = record { bound = bound; member = is_member g f In none shape s home members_in id w among said };
          counts = counts;
          has = has;
          carried = none_left_out;
          wrong = wrong;
        }) refl)) in
        ap (may_be_bound b) said.target
        ∙ allowed g service is ready b said.m.target sound.target known_aim
        (sym (ap (allows_target g (trait_bound b)) known_aim.there) ∙ may)

  pub have_targets : HaveTargets side ws
  have_targets w b w_in counted =
      let i = id_of (SaysWireMember g shape) s.members ws says w w_in in
      let told = counted_told (list_any (is_bound_by w.binding) (bindings_of side)) w.binding b counted in
      let counts = counts_there side b (sym (ap (λ o. list_any (is_bound_by o) (bindings_of side)) told.1) ∙ told.0) in
      right i.0 w i.1 i.2 b told.1 counts
