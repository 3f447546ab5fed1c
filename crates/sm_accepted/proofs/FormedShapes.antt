-- What a graph of the form of one has under an id: a shape with the members of its type, which are there; under the prelude's ids its
-- shapes.
use Rattle.std.proofs.Common.{◌≡◌, inl, inr, ℕ, Bool, true, false, List, [], ◌∷◌, map, Some, refl, sym, ap, subst, ◌∙◌, bytes_eq}
use Rattle.std.specs.Prelude.{◌||◌}
use Rattle.std.specs.FinMap as fin
use Rattle.std.specs.FinMap.{get-from_entries}
use Rattle.std.specs.FinMap.Entries.{find}
use Rattle.std.specs.Cmp.Lexicographic.{nat_list_cmp_total}
use Rattle.std.specs.List.{Contains, list_any}
use Rattle.std.proofs.lemmas.Slice.Eq.{bytes_eq-Decides}
use Rattle.sm_model.specs.Formed.{HaveForm, StandsAmong}
use Rattle.sm_model.specs.FormedGraph.{IsFormedGraph}
use Rattle.sm_model.specs.Given.{given_ids, given_names}
use Rattle.sm_model.specs.Graphs.{text_cmp, Entry, shape_entry, member_entry, ShapeEntry, MemberEntry, MemberGiven, ShapeGiven, member_id}
use Rattle.sm_model.specs.Graphs.{GraphMaps, given_entries, given_members}
use Rattle.sm_model.specs.Kinds.{member_form}
use Rattle.sm_model.specs.PreludeShapes.{is_prelude_id, prelude_shapes}
use Rattle.sm_model.specs.References.{IsShapeId}
use Rattle.sm_model.specs.Relations.{HasEntry}
use Rattle.sm_model.proofs.LinkedEntries.{cons_here}
use Rattle.sm_model.proofs.MapFacts.{keys, found_among}
use Rattle.sm_model.proofs.Sorting.{map_twice}
use Rattle.sm_model.proofs.Worklist.{apart}
use Rattle.sm_accepted.proofs.GivenShapes.{IsGivenAs, IsOneOf, behind_head, each_one, entry_given, found_each, keys_among}
use Rattle.sm_ids.proofs.TextCuts.{member_is_no_shape}
use Rattle.sm_accepted.proofs.GivenShapes.{one_given, shape_among}

-- members that are there
abbrev pub IsThere : GraphMaps → List ℕ → Type 0
IsThere g id = (m : MemberEntry) × HasEntry g id (member_entry m)

abbrev pub AreThere : GraphMaps → List (List ℕ) → Type 0
AreThere g [] = Unit {0}
AreThere g (id ∷ ids) = IsThere g id × AreThere g ids

-- a shape with the members of its type
pub record IsFormedEntry (g : GraphMaps) (id : List ℕ) (s : ShapeEntry) : Type 0 where
  pub names : List (List ℕ)
  pub members : s.members ≡ map (member_id id) names
  pub form : HaveForm (member_form s.kind) names
  pub there : AreThere g s.members

-- a shape of the prelude
abbrev pub IsOfPrelude : Entry → Type 0
IsOfPrelude e = (p : ShapeGiven) × Contains prelude_shapes p × (e ≡ shape_entry (entry_given p))

-- the shape with an id
named_among : (ss : List ShapeGiven) (id : List ℕ) → list_any (bytes_eq id) (given_ids ss) ≡ true
    → (p : ShapeGiven) × Contains ss p × (id ≡ p.id)
named_among [] id h = absurd (apart h)
named_among (s ∷ ss) id h = by (λ k. named_among ss id k) (bytes_eq id s.id) refl h
  where
    by : (list_any (bytes_eq id) (given_ids ss) ≡ true → (p : ShapeGiven) × Contains ss p × (id ≡ p.id)) → (b : Bool)
        → bytes_eq id s.id ≡ b → (b || list_any (bytes_eq id) (given_ids ss)) ≡ true
        → (p : ShapeGiven) × Contains (s ∷ ss) p × (id ≡ p.id)
    by later true same h = (s, cons_here s ss, (bytes_eq-Decides id s.id).0 same)
    by later false other h = let rest = later h in (rest.0, behind_head s ss rest.0 rest.1, rest.2)

module _ (g : GraphMaps) (f : IsFormedGraph g) where
  found_as : (q : List ℕ) → fin.get g.shapes q ≡ find text_cmp q (given_entries f.shapes)
  found_as q = ap (λ (x : GraphMaps). fin.get x.shapes q) f.is ∙ get-from_entries nat_list_cmp_total (given_entries f.shapes) q

  one_of : (q : List ℕ) (e : Entry) → HasEntry g q e → IsOneOf f.shapes q e
  one_of q e h =
      found_each (IsOneOf f.shapes) q e (given_entries f.shapes) (each_one f.shapes f.given.each) (sym (found_as q) ∙ h)

  -- members are there
  member_there : (shape name : List ℕ) → IsShapeId shape → StandsAmong (member_id shape name) (keys (given_entries f.shapes))
      → IsThere g (member_id shape name)
  member_there shape name is among =
      let q = member_id shape name in
      let r = found_among (IsOneOf f.shapes) q (given_entries f.shapes) (each_one f.shapes f.given.each) among in
      by r.0 r.1 r.2
    where
      by : (x : Entry) → find text_cmp (member_id shape name) (given_entries f.shapes) ≡ Some x → IsOneOf f.shapes (member_id shape name) x
          → IsThere g (member_id shape name)
      by (member_entry m) found one = (m, found_as (member_id shape name) ∙ found)
      by (shape_entry s) found one =
          let given = shape_among f.shapes f.given.each one.given one.among in
          absurd (member_is_no_shape shape name (subst IsShapeId (sym one.id_is) given.id))

  each_there : (shape : List ℕ) → IsShapeId shape → (ms : List MemberGiven)
      → ((k : List ℕ) → StandsAmong k (keys (given_members shape ms)) → StandsAmong k (keys (given_entries f.shapes)))
      → AreThere g (map (λ m. member_id shape m.name) ms)
  each_there shape is [] inside = tt
  each_there shape is (m ∷ ms) inside = (
    member_there shape m.name is (inside (member_id shape m.name) (inl refl)),
    each_there shape is ms (λ k h. inside k (inr h)),
  )

  pub formed_entry : (id : List ℕ) (s : ShapeEntry) → HasEntry g id (shape_entry s) → IsFormedEntry g id s
  formed_entry id s h =
      let one : IsGivenAs f.shapes id s = one_of id (shape_entry s) h in
      let given = shape_among f.shapes f.given.each one.given one.among in
      let ms = one.given.members in
      record {
        names = given_names ms;
        members = ap (λ (x : ShapeEntry). x.members) one.is ∙ sym (map_twice (λ (m : MemberGiven). m.name) (member_id one.given.id) ms)
            ∙ ap (λ i. map (member_id i) (given_names ms)) (sym one.id_is);
        form = subst (λ (x : ShapeEntry). HaveForm (member_form x.kind) (given_names ms)) (sym one.is) given.names;
        there = subst (λ (x : ShapeEntry). AreThere g x.members) (sym one.is)
            (each_there one.given.id given.id ms (λ k among. keys_among f.shapes one.given one.among k (inr among)));
      }

  -- what stands under an id of the prelude is its shape
  pub prelude_is : (p : ShapeGiven) → Contains prelude_shapes p → (s : ShapeEntry) → HasEntry g p.id (shape_entry s) → s ≡ entry_given p
  prelude_is p among s h =
      let one : IsGivenAs f.shapes p.id s = one_of p.id (shape_entry s) h in
      let alike = one_given f.shapes f.given.differ one.given p one.among (f.prelude p among) (sym one.id_is) in
      one.is ∙ ap entry_given alike

  pub prelude_entry : (id : List ℕ) (e : Entry) → is_prelude_id id ≡ true → HasEntry g id e → IsOfPrelude e
  prelude_entry id e is h =
      let p = named_among prelude_shapes id is in
      by p.0 p.1 e (subst (λ i. HasEntry g i e) p.2 h)
    where
      by : (p : ShapeGiven) → Contains prelude_shapes p → (e : Entry) → HasEntry g p.id e → IsOfPrelude e
      by p among (shape_entry s) there = (p, among, ap shape_entry (prelude_is p among s there))
      by p among (member_entry m) there =
          absurd (one_of p.id (member_entry m) there (shape_among f.shapes f.given.each p (f.prelude p among)).id)

  -- so no member has one
  pub member_own : (id : List ℕ) (m : MemberEntry) → HasEntry g id (member_entry m) → is_prelude_id id ≡ false
  member_own id m h = by (is_prelude_id id) refl
    where
      by : (b : Bool) → is_prelude_id id ≡ b → b ≡ false
      by true is = let p = prelude_entry id (member_entry m) is h in absurd (other (p.2))
        where
          other : {s : ShapeEntry} → member_entry m ≡ shape_entry s → ⊥
          other e = cc
      by false is = refl
