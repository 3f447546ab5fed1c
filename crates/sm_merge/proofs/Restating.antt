-- Statements that state a part of a regular graph: each shape of the part is stated once, and comes to what the graph has.
use Rattle.std.proofs.Common.{◌≡◌, inl, inr, ℕ, Bool, true, false, List, [], ◌∷◌, map, Some, None, refl, sym, ap, subst, ◌∙◌}
use Rattle.std.proofs.Common.{bytes_eq}
use Rattle.std.specs.Prelude.{◌||◌, ◌&&◌, not, if◌then◌else◌}
use Rattle.std.specs.List.{cons_option, slice_get}
use Rattle.std.specs.FinMap as fin
use Rattle.std.specs.FinMap.Entries.{find}
use Rattle.std.proofs.lemmas.Option.{none-some, same_Some}
use Rattle.std.proofs.lemmas.Slice.Eq.{bytes_eq-Decides}
use Rattle.sm_model.specs.Formed.{StandsAmong, DifferInNames}
use Rattle.sm_model.specs.Given.{given_ids}
use Rattle.sm_model.specs.Graphs.{Entry, GraphMaps, MemberEntry, ShapeEntry, given_entries, member_entry, member_id}
use Rattle.sm_model.specs.Graphs.{shape_entry, text_cmp}
use Rattle.sm_model.specs.PreludeShapes.{is_prelude_id, prelude_shapes}
use Rattle.sm_model.specs.References.{IsShapeId}
use Rattle.sm_model.specs.Used.{shape_part}
use Rattle.sm_merge.specs.Merged.{IsMergedMember, IsMergedShape, IsOfPrelude, StandsUnder, with_enum_value}
use Rattle.sm_merge.specs.Mixins.{EffectiveShape, IsEffective, names_of}
use Rattle.sm_merge.specs.Places.{shape_under, shapes_under}
use Rattle.sm_merge.specs.Stated.{ShapeStated, Stated, apply_stated, metadata_stated, shape_stated}
use Rattle.sm_merge.proofs.EntriesFound.{Has, found_has, has_each, has_found, has_key, key_has, made_has}
use Rattle.sm_ids.proofs.TextCuts.{of_member, of_shape}
use Rattle.sm_merge.proofs.EntryKeys.{shapes_of}
use Rattle.sm_merge.proofs.OneEffective.{one_effective}
use Rattle.sm_merge.proofs.OneMerged.{IsOfPreludeId, prelude_ids}
use Rattle.sm_merge.proofs.PreludeGiven.{clash, prelude_given, stands_by_test}
use Rattle.sm_merge.specs.Restated.{AllStateOf, StatesOf, StatesPart, is_kept}
use Rattle.sm_merge.proofs.RegularGraphs.{IsRegular, IsRegularEntry, IsRegularMember, IsRegularShape}
use Rattle.sm_merge.proofs.RestatedShapes.{IsStatedOnce, comes_to, entry_in, ids_from, member_found, named_alike}
use Rattle.sm_merge.proofs.RestatedShapes.{names_from, same_names, shape_from}
use Rattle.sm_merge.proofs.RestatedValues.{AreOwnShapes}

-- ids of the prelude
pub prelude_id : (id : List ℕ) (e : Entry) → IsOfPrelude id e → is_prelude_id id ≡ true
prelude_id id e h = has_each IsOfPreludeId id e (given_entries prelude_shapes) prelude_ids (made_has (given_entries prelude_shapes) id e h)

pub prelude_shape : (id : List ℕ) (e : Entry) → IsOfPrelude id e → is_prelude_id (shape_part id) ≡ true
prelude_shape id e h =
    stands_by_test (shape_part id) (given_ids prelude_shapes) (shapes_of prelude_shapes prelude_given.each id
    (has_key id e (given_entries prelude_shapes) (made_has (given_entries prelude_shapes) id e h)))

pub or_left : (b c : Bool) → b ≡ true → (b || c) ≡ true
or_left b c h = ap (λ x. x || c) h

or_right : (b c : Bool) → c ≡ true → (b || c) ≡ true
or_right true c h = refl
or_right false c h = h

module _ (keeps : List ℕ → Bool) where
  pub kept_by_shape : (id shape : List ℕ) → shape_part id ≡ shape → keeps shape ≡ true → is_kept keeps id ≡ true
  kept_by_shape id shape same h =
      or_right (is_prelude_id (shape_part id)) (keeps (shape_part id)) (subst (λ k. keeps k ≡ true) (sym same) h)

  shape_kept : (id shape : List ℕ) → shape_part id ≡ shape → is_prelude_id shape ≡ false → is_kept keeps id ≡ true → keeps shape ≡ true
  shape_kept id shape same own h =
      sym (ap (λ b. b || keeps shape) own) ∙ subst (λ k. (is_prelude_id k || keeps k) ≡ true) same h

-- entries of one sort are one
abbrev member_or : MemberEntry → Entry → MemberEntry
member_or d (shape_entry s) = d
member_or d (member_entry m) = m

abbrev entry_members : Entry → List (List ℕ)
entry_members (shape_entry s) = s.members
entry_members (member_entry m) = []

same_member : (m n : MemberEntry) → Path Entry (member_entry m) (member_entry n) → Path MemberEntry m n
same_member m n same = ap (member_or m) same

module _ (g : GraphMaps) (regular : IsRegular g) (keeps : List ℕ → Bool) (ss : List Stated) (part : StatesPart keeps g ss) where
  -- a shape that is stated is regular
  stated_regular : (s : ShapeStated) (h : StatesOf keeps g (shape_stated s)) → IsRegularShape g s.shape.id (entry_in g.shapes s.shape h.1)
  stated_regular s h = elim (regular.entries s.shape.id (shape_entry (entry_in g.shapes s.shape h.1)) h.1.found) [
    | inl of ↦ clash (is_prelude_id s.shape.id) (prelude_id s.shape.id _ of) h.2
    | inr r ↦ r
  ]

  own_among : (ts : List Stated) → AllStateOf keeps g ts → AreOwnShapes ts
  own_among [] h = tt
  own_among (metadata_stated key value ∷ ts) h = own_among ts h.1
  own_among (shape_stated s ∷ ts) h = ((stated_regular s h.0).is, h.0.2, own_among ts h.1)
  own_among (apply_stated id traits ∷ ts) h = absurd h.0

  -- what is stated under an id
  pub record IsUnder (id : List ℕ) (s : ShapeStated) : Type 0 where
    pub same : s.shape.id ≡ id
    pub states : StatesOf keeps g (shape_stated s)

  abbrev AllUnder : List ℕ → List ShapeStated → Type 0
  AllUnder id [] = Unit {0}
  AllUnder id (s ∷ ts) = IsUnder id s × AllUnder id ts

  all_under : (id : List ℕ) (ts : List Stated) → AllStateOf keeps g ts → AllUnder id (shapes_under id ts)
  all_under id [] h = tt
  all_under id (metadata_stated key value ∷ ts) h = all_under id ts h.1
  all_under id (shape_stated s ∷ ts) h = by_tests (all_under id ts h.1) (bytes_eq s.shape.id id) refl (not (is_prelude_id id))
    where
      by_tests : AllUnder id (shapes_under id ts) → (b : Bool) → bytes_eq s.shape.id id ≡ b → (c : Bool)
          → AllUnder id (cons_option (if b && c then Some s else None) (shapes_under id ts))
      by_tests rest true same true = (record { same = (bytes_eq-Decides s.shape.id id).0 same; states = h.0 }, rest)
      by_tests rest true same false = rest
      by_tests rest false apart c = rest
  all_under id (apply_stated target traits ∷ ts) h = all_under id ts h.1

  first_under : (id : List ℕ) (ts : List ShapeStated) (s : ShapeStated) → AllUnder id ts → slice_get ts 0 ≡ Some s → IsUnder id s
  first_under id [] s all at = absurd (none-some s at)
  first_under id (t ∷ ts) s all at = subst (IsUnder id) (same_Some t s at) all.0

  pub under_first : (id : List ℕ) (s : ShapeStated) → shape_under id ss ≡ Some s → IsUnder id s
  under_first id s there = first_under id (shapes_under id ss) s (all_under id ss part.each) there

  -- a shape that stands under its id stands there alone
  pub alone_under : (id : List ℕ) (s : ShapeStated) → shape_under id ss ≡ Some s → shapes_under id ss ≡ s ∷ []
  alone_under id s there =
      let under = under_first id s there in
      let states = under.states in
      let entry = entry_in g.shapes s.shape states.1 in
      let one = part.shapes id entry (ap (fin.get g.shapes) (sym under.same) ∙ states.1.found)
      (subst (λ k. is_prelude_id k ≡ false) under.same states.2) (subst (λ k. keeps k ≡ true) under.same states.3) in
      let same : Path ShapeStated one.0 s = same_Some one.0 s (sym (ap (λ ts. slice_get ts 0) one.1) ∙ there) in
      one.1 ∙ (λ i. same i ∷ [])

  pub once : (id : List ℕ) (s : ShapeStated) → shape_under id ss ≡ Some s → IsStatedOnce ss g.shapes s
  once id s there =
      let under = under_first id s there in
      let r = stated_regular s under.states in record {
        own = own_among ss part.each;
        alone = subst (λ k. shapes_under k ss ≡ s ∷ []) (sym under.same) (alone_under id s there);
        is = r.is;
        plain = under.states.0;
        is_in = under.states.1;
        differ = subst DifferInNames (sym (same_names s.shape.id s.shape.members r.names r.members)) r.differ;
      }

  -- what it comes to
  abbrev pub comes : (id : List ℕ) (s : ShapeStated) → shape_under id ss ≡ Some s → EffectiveShape
  comes id s there = shape_from g.shapes s.shape (once id s there).is_in

  pub effective_once : (id : List ℕ) (s : ShapeStated) (there : shape_under id ss ≡ Some s) → IsEffective ss id (comes id s there)
  effective_once id s there =
      subst (λ k. IsEffective ss k (comes id s there)) (under_first id s there).same (comes_to ss g.shapes s (once id s there))

  abbrev entry_under : (id : List ℕ) (s : ShapeStated) (m : EffectiveShape) → Entry
  entry_under id s m = shape_entry (record {
    kind = s.shape.kind;
    members = map (member_id id) (names_of m.members);
    properties = s.shape.properties;
    traits = m.traits;
  })

  -- the graph has it
  pub shape_found : (id : List ℕ) (s : ShapeStated) (there : shape_under id ss ≡ Some s)
      → fin.get g.shapes id ≡ Some (entry_under id s (comes id s there))
  shape_found id s there =
      let under = under_first id s there in
      let o = once id s there in
      let names = names_of (comes id s there).members in
      ap (fin.get g.shapes) (sym under.same) ∙ o.is_in.found
      ∙ ap (λ ids. Some (shape_entry (record {
        kind = s.shape.kind;
        members = ids;
        properties = s.shape.properties;
        traits = o.is_in.traits;
      })))
      (ids_from g.shapes s.shape.id s.shape.members o.is_in.members ∙ ap (λ k. map (member_id k) names) under.same)

  pub member_in : (id : List ℕ) (s : ShapeStated) (there : shape_under id ss ≡ Some s) (name : List ℕ) (e : MemberEntry)
      → Has name e (comes id s there).members → fin.get g.shapes (member_id id name) ≡ Some (member_entry e)
  member_in id s there name e has =
      ap (λ k. fin.get g.shapes (member_id k name)) (sym (under_first id s there).same)
      ∙ member_found g.shapes s.shape.id s.shape.members (once id s there).is_in.members name e has

  pub names_differ : (id : List ℕ) (s : ShapeStated) (there : shape_under id ss ≡ Some s)
      → DifferInNames (names_of (comes id s there).members)
  names_differ id s there =
      let o = once id s there in
      subst DifferInNames (sym (names_from g.shapes s.shape.id s.shape.members o.is_in.members)) o.differ

  regular_under : (id : List ℕ) (s : ShapeStated) (there : shape_under id ss ≡ Some s)
      → IsRegularShape g s.shape.id (entry_in g.shapes s.shape (once id s there).is_in)
  unfolding once
  regular_under id s there = stated_regular s (under_first id s there).states

  -- members of enums have their values
  pub has_value : (id : List ℕ) (s : ShapeStated) (there : shape_under id ss ≡ Some s) (name : List ℕ) (e : MemberEntry)
      → Has name e (comes id s there).members → Path MemberEntry (with_enum_value s.shape.kind name e) e
  has_value id s there name e has =
      let o = once id s there in
      let r = regular_under id s there in
      let among : StandsAmong name r.names = subst (StandsAmong name)
      (names_from g.shapes s.shape.id s.shape.members o.is_in.members ∙ same_names s.shape.id s.shape.members r.names r.members)
      (has_key name e (comes id s there).members has) in
      let held = r.each name among in
      let same : Path MemberEntry held.0 e = same_member held.0 e (same_Some (member_entry held.0) (member_entry e)
      (sym held.1 ∙ member_found g.shapes s.shape.id s.shape.members o.is_in.members name e has)) in
      subst (λ x. Path MemberEntry (with_enum_value s.shape.kind name x) x) same held.2

  -- a shape of the part is stated
  pub record IsStatedShape (id : List ℕ) (s : ShapeEntry) : Type 0 where
    pub t : ShapeStated
    pub there : shape_under id ss ≡ Some t
    pub is : Path Entry (shape_entry s) (entry_under id t (comes id t there))

  pub shape_stated_once : (id : List ℕ) (s : ShapeEntry) → fin.get g.shapes id ≡ Some (shape_entry s) → is_prelude_id id ≡ false
      → keeps id ≡ true → IsStatedShape id s
  shape_stated_once id s found own kept =
      let one = part.shapes id s found own kept in
      let there : shape_under id ss ≡ Some one.0 = ap (λ ts. slice_get ts 0) one.1 in record {
        t = one.0;
        there = there;
        is = same_Some (shape_entry s) (entry_under id one.0 (comes id one.0 there)) (sym found ∙ shape_found id one.0 there);
      }

  -- what the part has stands under its id
  shape_stands : (id : List ℕ) (s : ShapeEntry) → fin.get g.shapes id ≡ Some (shape_entry s) → IsRegularShape g id s
      → is_kept keeps id ≡ true → IsMergedShape ss id (shape_entry s)
  shape_stands id s found r kept =
      let one = shape_stated_once id s found r.own (shape_kept keeps id id (of_shape id r.is) r.own kept) in record {
        s = one.t;
        there = one.there;
        m = comes id one.t one.there;
        is_effective = effective_once id one.t one.there;
        is = one.is;
      }

  member_stands : (id : List ℕ) (m : MemberEntry) → fin.get g.shapes id ≡ Some (member_entry m) → IsRegularMember g id
      → is_kept keeps id ≡ true → IsMergedMember ss id (member_entry m)
  member_stands id m found r kept =
      let of : shape_part id ≡ r.shape = ap shape_part r.under ∙ of_member r.shape r.is.is r.name in
      let one = shape_stated_once r.shape r.s r.there r.is.own (shape_kept keeps id r.shape of r.is.own kept) in
      let members = (comes r.shape one.t one.there).members in
      let names : names_of members ≡ r.is.names = named_alike r.shape (names_of members) r.is.names
      (sym (ap entry_members one.is) ∙ r.is.members) in
      let held = key_has r.name members (subst (StandsAmong r.name) (sym names) r.among) in
      let same : Path MemberEntry m held.0 = same_member m held.0 (same_Some (member_entry m) (member_entry held.0)
      (sym found ∙ ap (fin.get g.shapes) r.under ∙ member_in r.shape one.t one.there r.name held.0 held.1)) in record {
        shape = r.shape;
        s = one.t;
        there = one.there;
        m = comes r.shape one.t one.there;
        is_effective = effective_once r.shape one.t one.there;
        name = r.name;
        of = held.0;
        found = has_found r.name held.0 members (names_differ r.shape one.t one.there) held.1;
        under = r.under;
        is = ap (λ x. member_entry x) (same ∙ sym (has_value r.shape one.t one.there r.name held.0 held.1));
      }

  pub stands_again : (id : List ℕ) (e : Entry) → fin.get g.shapes id ≡ Some e → is_kept keeps id ≡ true → StandsUnder ss id e
  stands_again id e found kept = elim (regular.entries id e found) [
    | inl of ↦ inr (inr of)
    | inr r ↦ by_entry e found r
  ]
    where
      by_entry : (e : Entry) → fin.get g.shapes id ≡ Some e → IsRegularEntry g id e → StandsUnder ss id e
      by_entry (shape_entry s) found r = inl (shape_stands id s found r kept)
      by_entry (member_entry m) found r = inr (inl (member_stands id m found r kept))

  -- and only this
  abbrev InPart : List ℕ → Entry → Type 0
  InPart id e = (fin.get g.shapes id ≡ Some e) × (is_kept keeps id ≡ true)

  shape_there : (id : List ℕ) (e : Entry) → IsMergedShape ss id e → InPart id e
  shape_there id e h =
      let under = under_first id h.s h.there in
      let m : Path EffectiveShape h.m (comes id h.s h.there) = one_effective ss id h.m _ h.is_effective (effective_once id h.s h.there) in
      let is : IsShapeId id = subst IsShapeId under.same (once id h.s h.there).is in (
        shape_found id h.s h.there ∙ ap (λ x. Some x) (sym (h.is ∙ ap (entry_under id h.s) m)),
        kept_by_shape keeps id id (of_shape id is) (subst (λ k. keeps k ≡ true) under.same under.states.3),
      )

  member_there : (id : List ℕ) (e : Entry) → IsMergedMember ss id e → InPart id e
  member_there id e h =
      let under = under_first h.shape h.s h.there in
      let here = comes h.shape h.s h.there in
      let m : Path EffectiveShape h.m here = one_effective ss h.shape h.m _ h.is_effective (effective_once h.shape h.s h.there) in
      let has : Has h.name h.of here.members = found_has h.name h.of here.members
      (subst (λ (x : EffectiveShape). find text_cmp h.name x.members ≡ Some h.of) m h.found) in
      let is : IsShapeId h.shape = subst IsShapeId under.same (once h.shape h.s h.there).is in (
        ap (fin.get g.shapes) h.under ∙ member_in h.shape h.s h.there h.name h.of has
            ∙ ap (λ x. Some x) (sym (h.is ∙ ap (λ x. member_entry x) (has_value h.shape h.s h.there h.name h.of has))),
        kept_by_shape keeps id h.shape (ap shape_part h.under ∙ of_member h.shape is h.name)
            (subst (λ k. keeps k ≡ true) under.same under.states.3),
      )

  pub only_again : (id : List ℕ) (e : Entry) → StandsUnder ss id e → InPart id e
  only_again id e (inl h) = shape_there id e h
  only_again id e (inr (inl h)) = member_there id e h
  only_again id e (inr (inr h)) =
      (regular.prelude id e h, or_left (is_prelude_id (shape_part id)) (keeps (shape_part id)) (prelude_shape id e h))
