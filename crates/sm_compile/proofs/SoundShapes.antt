-- What the parts of `sound` tell of a shape by its number, put together.
use Rattle.std.proofs.Common.{◌≡◌, inl, inr, ℕ, ◌+◌, ◌<◌, Bool, true, false, List, [], ◌∷◌, ◌++◌, map, length, Option, Some, None, refl}
use Rattle.std.proofs.Common.{sym, ap, ◌∙◌, subst, arith}
use Rattle.std.specs.Prelude.{◌↔◌}
use Rattle.std.specs.List.{Contains, list_all}
use Rattle.std.specs.FinMap as fin
use Rattle.std.proofs.lemmas.Bool.{cases_lt, cases_eq}
use Rattle.std.proofs.lemmas.Option.{none-some, same_Some}
use Rattle.sm_bytes.specs.Ascii.{dollar}
use Rattle.sm_model.specs.Formed.{HaveForm}
use Rattle.sm_model.specs.Graphs.{Entry, shape_entry, member_entry, GraphMaps, ShapeEntry, member_id}
use Rattle.sm_model.specs.GraphView.{IsShapeNumber, entries_of, maps_of}
use Rattle.sm_model.specs.Kinds.{member_form}
use Rattle.sm_model.specs.Reaching.{AreMarks, IsMarked, id_of_number}
use Rattle.sm_model.specs.Relations.{HasEntry}
use Rattle.sm_model.specs.declared.graph.Graph.{Graph}
use Rattle.sm_model.specs.declared.kind.Kind.{Kind}
use Rattle.sm_model.proofs.LinkedEntries.{cons_cases, cons_here}
use Rattle.sm_model.proofs.NumberedIds.{number_of}
use Rattle.sm_model.proofs.Worklist.{apart}
use Rattle.sm_shapes.specs.Names.{AllDiffer}
use Rattle.sm_compile.specs.Kinds.{has_values}
use Rattle.sm_compile.specs.Reached.{IsReached}
use Rattle.sm_compile.specs.Sound.{IsSoundAt, IsSoundShape, IsValueShape, Sound, TellsSound, trait_in, trait_of}
use Rattle.sm_compile.specs.TraitNodes.{own_traits}
use Rattle.sm_compile.specs.steps.Looked.{IsReachedFrom, kind_in, kind_under, listed_in, listed_under}
use Rattle.sm_compile.specs.declared.names.Names.{Names}
use Rattle.sm_compile.specs.steps.Naming.{AreNames, texts_of_all}
use Rattle.sm_compile.specs.steps.Soundness.{AreSoundBelow, AreSoundNames}
use Rattle.sm_compile.specs.steps.Tests.{are_formed, has_parts, has_plain_parts, is_sound_member}
use Rattle.sm_compile.proofs.SoundTests.{both_of, first_of, formed_along, formed_told, members_told, second_of, text_key_told, values_told}

-- names by their ids
cons_same : (x y : List ℕ) (xs ys : List (List ℕ)) → x ∷ xs ≡ y ∷ ys → (x ≡ y) × (xs ≡ ys)
cons_same x y xs ys h = (cc, cc)

behind_same : (a x y : List ℕ) → a ++ dollar ∷ x ≡ a ++ dollar ∷ y → x ≡ y
behind_same [] x y h = cc
behind_same (c ∷ a) x y h = behind_same a x y cc

pub names_same : (id : List ℕ) (ns ms : List (List ℕ)) → map (member_id id) ns ≡ map (member_id id) ms → ns ≡ ms
names_same id [] [] h = refl
names_same id [] (m ∷ ms) h = absurd cc
names_same id (n ∷ ns) [] h = absurd cc
names_same id (n ∷ ns) (m ∷ ms) h =
    let parts = cons_same (member_id id n) (member_id id m) (map (member_id id) ns) (map (member_id id) ms) h in
    ap (λ x. x ∷ ns) (behind_same id n m parts.0) ∙ ap (λ xs. m ∷ xs) (names_same id ns ms parts.1)

-- the shape of a type
pub shape_under : (m : GraphMaps) (id : List ℕ) (kind : Kind) → kind_under m id ≡ Some kind
    → (s : ShapeEntry) × HasEntry m id (shape_entry s) × (s.kind ≡ kind)
shape_under m id kind h = by (fin.get m.shapes id) refl h
  where
    by : (o : Option Entry) → fin.get m.shapes id ≡ o → kind_in o ≡ Some kind
        → (s : ShapeEntry) × HasEntry m id (shape_entry s) × (s.kind ≡ kind)
    by None has is = absurd (none-some kind is)
    by (Some (shape_entry s)) has is = (s, has, same_Some s.kind kind is)
    by (Some (member_entry n)) has is = absurd (none-some kind is)

pub one_shape : (m : GraphMaps) (id : List ℕ) (s t : ShapeEntry) → HasEntry m id (shape_entry s) → HasEntry m id (shape_entry t) → s ≡ t
one_shape m id s t h k = let e = same_Some (shape_entry s) (shape_entry t) (sym h ∙ k) in cc

module _ (g : Graph) (k : ℕ) where
  abbrev m : GraphMaps
  m = maps_of g

  abbrev id : List ℕ
  id = id_of_number g k

  pub sound_none : kind_under (maps_of g) (id_of_number g k) ≡ None → IsSoundAt g k
  sound_none none s has = absurd (none-some s.kind (sym none ∙ ap kind_in has))

  module _ (kind : Kind) (is : kind_under (maps_of g) (id_of_number g k) ≡ Some kind) where
    pub sound_parts : IsSoundAt g k → has_parts (maps_of g) (id_of_number g k) kind (listed_under (maps_of g) (id_of_number g k)) ≡ true
    sound_parts sound =
        let x = shape_under m id kind is in
        let s = x.0 in
        let whole = sound s x.1 in
        subst (λ ids. has_parts m id kind ids ≡ true) (sym (ap listed_in x.1))
        (subst (λ n. has_parts m id n s.members ≡ true) x.2
        (both_of (has_plain_parts m id s.kind s.members) _
        (both_of (are_formed s.kind (trait_of m id)) _
        ((formed_told s.kind (trait_of m id)).1
        (formed_along s.kind (own_traits s.traits) (trait_of m id) (λ name. sym (ap (trait_in name) x.1)) whole.traits))
        (both_of (list_all (is_sound_member m s.kind) s.members) _ ((members_told m s.kind s.members).1 whole.each)
        ((text_key_told m s.kind s.members).1 whole.key)))
        ((values_told m s.kind s.members).1 whole.values)))

    pub sound_names : IsSoundAt g k
        → (names : List (List ℕ)) × (listed_under (maps_of g) (id_of_number g k) ≡ map (member_id (id_of_number g k)) names)
        × AreSoundNames (maps_of g) (id_of_number g k) kind names
    sound_names sound =
        let x = shape_under m id kind is in
        let whole = sound x.0 x.1 in (
          whole.names,
          ap listed_in x.1 ∙ whole.members,
          subst (λ n. AreSoundNames m id n whole.names) x.2 (whole.form, whole.json_names),
        )

    pub sound_from : has_parts (maps_of g) (id_of_number g k) kind (listed_under (maps_of g) (id_of_number g k)) ≡ true
        → (names : List (List ℕ)) → listed_under (maps_of g) (id_of_number g k) ≡ map (member_id (id_of_number g k)) names
        → AreSoundNames (maps_of g) (id_of_number g k) kind names → IsSoundAt g k
    sound_from parts names named right s has =
        let same : kind ≡ s.kind = same_Some kind s.kind (sym is ∙ ap kind_in has) in
        let here : has_parts m id s.kind s.members ≡ true =
        subst (λ n. has_parts m id n s.members ≡ true) same (subst (λ ids. has_parts m id kind ids ≡ true) (ap listed_in has) parts) in
        let plain = first_of (has_plain_parts m id s.kind s.members) _ here in
        let rest = second_of (are_formed s.kind (trait_of m id)) _ plain in
        let form = subst (λ n. AreSoundNames m id n names) same right in
        record {
          names = names;
          members = sym (ap listed_in has) ∙ named;
          form = form.0;
          json_names = form.1;
          each = (members_told m s.kind s.members).0 (first_of (list_all (is_sound_member m s.kind) s.members) _ rest);
          key = (text_key_told m s.kind s.members).0 (second_of (list_all (is_sound_member m s.kind) s.members) _ rest);
          values = (values_told m s.kind s.members).0 (second_of (has_plain_parts m id s.kind s.members) _ here);
          traits = formed_along s.kind (trait_of m id) (own_traits s.traits) (λ name. ap (trait_in name) has)
              ((formed_told s.kind (trait_of m id)).0 (first_of (are_formed s.kind (trait_of m id)) _ plain));
        }

    pub no_parts : has_parts (maps_of g) (id_of_number g k) kind (listed_under (maps_of g) (id_of_number g k)) ≡ false → IsSoundAt g k → ⊥
    no_parts none sound = apart (sym none ∙ sound_parts sound)

    pub names_told : has_parts (maps_of g) (id_of_number g k) kind (listed_under (maps_of g) (id_of_number g k)) ≡ true
        → (names : List (List ℕ)) → listed_under (maps_of g) (id_of_number g k) ≡ map (member_id (id_of_number g k)) names
        → AreSoundNames (maps_of g) (id_of_number g k) kind names ↔ IsSoundAt g k
    names_told parts names named = (
      sound_from parts names named,
      λ sound.
          let r = sound_names sound in
          subst (AreSoundNames m id kind) (names_same id r.0 names (sym r.1 ∙ named)) r.2,
    )

    pub sound_with_names : has_parts (maps_of g) (id_of_number g k) kind (listed_under (maps_of g) (id_of_number g k)) ≡ true
        → (ns : List ℕ) (names : Names) (b : Bool) → map (id_of_number g) ns ≡ listed_under (maps_of g) (id_of_number g k)
        → AreNames (maps_of g) (id_of_number g k) (map (id_of_number g) ns) (texts_of_all names.names.items)
        (texts_of_all names.json_names.items)
        → (b ≡ true) ↔ (HaveForm (member_form kind) (texts_of_all names.names.items) × AllDiffer (texts_of_all names.json_names.items))
        → (b ≡ true) ↔ IsSoundAt g k
    sound_with_names parts ns names b ids are told =
        let t = names_told parts (texts_of_all names.names.items) (sym ids ∙ are.named) in (
          λ h. let r = told.0 h in t.0 (r.0, subst AllDiffer are.json_named r.1),
          λ sound. let r = t.1 sound in told.1 (r.0, subst AllDiffer (sym are.json_named) r.1),
        )

    pub sound_without_names : (ns : List ℕ) → map (id_of_number g) ns ≡ listed_under (maps_of g) (id_of_number g k)
        → ((names : List (List ℕ)) → map (id_of_number g) ns ≡ map (member_id (id_of_number g k)) names → ⊥)
        → (false ≡ true) ↔ IsSoundAt g k
    sound_without_names ns ids none = (
      λ h. absurd (apart h),
      λ sound. let r = sound_names sound in absurd (none r.0 (ids ∙ r.1)),
    )

    pub sound_lacks_parts : (b : Bool) → b ≡ has_parts (maps_of g) (id_of_number g k) kind (listed_under (maps_of g) (id_of_number g k))
        → b ≡ false → (false ≡ true) ↔ IsSoundAt g k
    sound_lacks_parts b is lacks = (λ h. absurd (apart h), λ sound. absurd (no_parts (sym is ∙ lacks) sound))

  pub value_told : (kind : Kind) → kind_under (maps_of g) (id_of_number g k) ≡ Some kind
      → (has_values kind ≡ true) ↔ IsValueShape (maps_of g) (id_of_number g k)
  value_told kind is = (
    λ h. let x = shape_under m id kind is in (x.0, x.1, ap has_values x.2 ∙ h),
    λ v. ap has_values (same_Some kind v.0.kind (sym is ∙ ap kind_in v.1)) ∙ v.2,
  )

  pub no_value : kind_under (maps_of g) (id_of_number g k) ≡ None → IsValueShape (maps_of g) (id_of_number g k) → ⊥
  no_value none v = none-some v.0.kind (sym none ∙ ap kind_in v.1)

module _ (g : Graph) where
  pub below_more : (marks : List Bool) (n : ℕ) → AreSoundBelow g marks n → (IsMarked marks n → IsSoundAt g n) → AreSoundBelow g marks
      (n + 1)
  below_more marks n before here j less marked = elim (cases_eq j n) [
    | inl is ↦ subst (IsSoundAt g) (sym is) (here (subst (IsMarked marks) is marked))
    | inr other ↦ before j (below other less) marked
  ]
    where
      below : (j ≡ n → ⊥) → j < n + 1 → j < n
      below other less = elim (cases_lt j n) [ inl l ↦ l | inr ge ↦ absurd (other (omega (arith, ge, less))) ]

  pub sound_told : (root : ℕ) (marks : List Bool) (b : Bool) → IsShapeNumber g root
      → AreMarks (length (entries_of g)) (λ k. IsReachedFrom g (root ∷ []) (id_of_number g k)) marks
      → (b ≡ true) ↔ AreSoundBelow g marks (length marks) → IsValueShape (maps_of g) (id_of_number g root)
      → TellsSound (maps_of g) (id_of_number g root) b
  sound_told root marks true lt are told value = λ given i s reached has.
      let x = number_of g i (shape_entry s, has) in
      let marked = (are.marked x.0).1 (
        x.1,
        (
          root,
          cons_here root [],
          subst (IsReached (maps_of g) (id_of_number g root)) (sym x.2)
              reached,
        ),
      ) in
      let here = told.0 refl x.0 (subst (λ n. x.0 < n) (sym are.whole) x.1) marked in
      subst (λ j. IsSoundShape (maps_of g) j s) x.2 (here s (subst (λ j. HasEntry (maps_of g) j (shape_entry s)) (sym x.2) has))
  sound_told root marks false lt are told value = λ sound.
      apart (told.1 (λ k less marked s has.
      let r = ((are.marked k).0 marked).1 in
      sound value (id_of_number g k) s (subst (λ j. IsReached (maps_of g) (id_of_number g j) (id_of_number g k)) (only r.0 r.1) r.2) has))
    where
      only : (r : ℕ) → Contains (root ∷ []) r → r ≡ root
      only r h = elim (cons_cases root [] r h) [ inl is ↦ sym is | inr none ↦ absurd (omega (arith, none.1)) ]

  pub sound_without : (root : ℕ) → (IsValueShape (maps_of g) (id_of_number g root) → ⊥) → Sound (maps_of g) (id_of_number g root)
  sound_without root none value = absurd (none value)
