-- Giving a namespace another name is faithful, where the graph doesn't know the other one: ids stay ids, and apart.
use Rattle.std.proofs.Common.{◌≡◌, ◌⊎◌, inl, inr, ℕ, Bool, true, false, List, ◌∷◌, ◌++◌, Some, refl, sym, ap, subst, ◌∙◌, append_assoc}
use Rattle.std.proofs.Common.{bytes_eq}
use Rattle.std.specs.Prelude.{if◌then◌else◌}
use Rattle.std.proofs.lemmas.Bool.{cases_Bool, true≢false}
use Rattle.std.proofs.lemmas.Option.{same_Some}
use Rattle.std.proofs.lemmas.Slice.Eq.{bytes_eq-Decides}
use Rattle.sm_ids.specs.Identifier.{IsIdentifier, IsNamespace}
use Rattle.sm_ids.specs.IdText.{Id, IdText, IsIdText, IsShapeId, member_text}
use Rattle.sm_ids.specs.TextParts.{absolute_id, local_part, member_id, namespace_part}
use Rattle.sm_ids.proofs.MadeIds.{member_spelled}
use Rattle.sm_tree.specs.Node.{Members, Node, object, member, no_members, null, bool, int, number, text, bytes, tag, opaque, list}
use Rattle.sm_tree.specs.Parts.{pairs_in}
use Rattle.sm_tree.specs.Same.{HasName, HasPair}
use Rattle.sm_model.specs.Given.{AreNodeFields, AreRenamed, HasShapeBody, NodeHasForm}
use Rattle.sm_model.specs.Graphs.{Entry, GraphMaps, ShapeEntry, member_entry, shape_entry}
use Rattle.sm_model.specs.PreludeShapes.{is_prelude_id}
use Rattle.sm_model.specs.Properties.{TypeFields, form_named, property_forms}
use Rattle.sm_model.specs.Relations.{HasBodyPair, HasEntry, IsInGraph}
use Rattle.sm_model.specs.declared.property.PropertyForm.{PropertyForm}
use Rattle.sm_model.specs.declared.property.PropertyForm.TheVariants.{Rename}
use Rattle.sm_merge.proofs.GraphSound.{IsSoundEntry}
use Rattle.sm_transform.specs.IdChanges.{entry_after, id_after}
use Rattle.sm_transform.specs.Namespaces.{api_namespace, is_of_api, is_of_namespace}
use Rattle.sm_transform.specs.Renamed.{IsKnownIn, IsRefused, IsRenameKey, key_known, renamed_id, renames, shape_known, trait_known}
use Rattle.sm_transform.specs.steps.Changing.{IsLeft, IsSafeFor}
use Rattle.sm_changed_again.proofs.Faithful.{IsFaithful}
use Rattle.sm_changed_again.proofs.IdParts.{id_of_api, id_parts, local_of, member_namespace, namespace_of, shape_text}
use Rattle.sm_changed_again.proofs.KeptGraphs.{sound_traits}
use Rattle.sm_changed_again.proofs.LeftShapes.{left_faithful}

-- the id of a member
member_text_is : (shape name : List ℕ) → IsShapeId shape → IsIdentifier name → IsIdText (member_id shape name)
member_text_is shape name (id, spelt, alone) identifier = (
  record { namespace = id.namespace; name = id.name; member = Some name },
  record {
    is_id = record {
      namespace = spelt.is_id.namespace;
      name = spelt.is_id.name;
      member = λ m same. subst IsIdentifier (same_Some name m same) identifier;
    };
    spelled = sym (member_spelled shape (id, spelt, alone) id spelt name);
  },
)

sound_id : (id : List ℕ) (e : Entry) → IsSoundEntry id e → IsIdText id
sound_id id (shape_entry s) h = shape_text id h.0
sound_id id (member_entry m) h = let i = h.0 in subst IsIdText (sym i.is) (member_text_is i.shape i.name i.of_shape i.named)

-- an object says its pairs alone, and a body that has a pair is an object
one_object : (a b : Members) → object a ≡ object b → a ≡ b
one_object a b same = same_Some a b (ap pairs_in same)

body_object : (k : List ℕ) (n p : Node) → HasBodyPair k n p → (ms : Members) × (p ≡ object ms) × HasPair k n ms
body_object k n (object ms) h = (ms, refl, h)
body_object k n (text t) h = absurd h
body_object k n (list ns) h = absurd h
body_object k n null h = absurd h
body_object k n (bool b) h = absurd h
body_object k n (int z) h = absurd h
body_object k n (number t) h = absurd h
body_object k n (bytes t) h = absurd h
body_object k n (tag i m) h = absurd h
body_object k n (opaque b) h = absurd h

-- keys of `rename` are ids
field_form : (fs : TypeFields) (ms : Members) → AreNodeFields fs ms → (k : List ℕ) (n : Node) → HasPair k n ms → (form : PropertyForm)
    → form_named k fs ≡ Some form → NodeHasForm form n
field_form fs no_members h k n pair form named = absurd pair
field_form fs (member j x ms) h k n (inl (key_is, value)) form named =
    let f = h.0 in
    let same : f.0 ≡ form = same_Some f.0 form (sym f.1 ∙ ap (λ y. form_named y fs) (sym key_is) ∙ named) in
    subst (NodeHasForm form) (sym value) (subst (λ y. NodeHasForm y x) same f.2)
field_form fs (member j x ms) h k n (inr later) form named = field_form fs ms h.1 k n later form named

renamed_key : (ms : Members) → AreRenamed ms → (k : List ℕ) → HasName k ms → IsIdText k
renamed_key no_members h k named = absurd named
renamed_key (member j n ms) h k (inl same) = subst IsIdText (sym same) h.0
renamed_key (member j n ms) h k (inr later) = renamed_key ms h.2 k later

module _ (g : GraphMaps) (bodies : (id : List ℕ) (s : ShapeEntry) → HasEntry g id (shape_entry s) → HasShapeBody s.kind s.properties) where
  rename_id : (k : List ℕ) → IsRenameKey g k → IsIdText k
  rename_id k r =
      let h = r.renames in
      let body = bodies r.id r.s r.there in
      let o = body_object h.field (object h.pairs) r.s.properties h.body in
      let same : o.0 ≡ body.pairs = one_object o.0 body.pairs (sym o.1 ∙ body.is_object) in
      let form = field_form (property_forms r.s.kind) body.pairs body.fields h.field (object h.pairs)
      (subst (HasPair h.field (object h.pairs)) same o.2) Rename h.form in
      let pairs : h.pairs ≡ form.0 = one_object h.pairs form.0 form.1 in
      renamed_key h.pairs (subst AreRenamed (sym pairs) form.2) k h.among

module _ (from to : List ℕ) (is : IsNamespace to) where
  renamed_here : (id : List ℕ) → namespace_part id ≡ from → renamed_id from to id ≡ absolute_id to (local_part id)
  renamed_here id same = ap (λ b. if b then absolute_id to (local_part id) else id) ((bytes_eq-Decides (namespace_part id) from).1 same)

  renamed_else : (id : List ℕ) → is_of_namespace from id ≡ false → renamed_id from to id ≡ id
  renamed_else id other = ap (λ b. if b then absolute_id to (local_part id) else id) other

  -- either way
  record IsMoved (id : List ℕ) : Type 0 where
    of : namespace_part id ≡ from
    now : renamed_id from to id ≡ absolute_id to (local_part id)

  moved_or_not : (id : List ℕ) → IsMoved id ⊎ (renamed_id from to id ≡ id)
  moved_or_not id = elim (cases_Bool (is_of_namespace from id)) [
    | inl same ↦
        let of = (bytes_eq-Decides (namespace_part id) from).0 same in inl (record { of = of; now = renamed_here id of })
    | inr other ↦ inr (renamed_else id other)
  ]

  -- an id in the other namespace
  other_id : (id : Id) (t : List ℕ) → IdText id t → IdText (record { namespace = to; name = id.name; member = id.member })
      (absolute_id to (local_part t))
  other_id id t h = record {
    is_id = record { namespace = is; name = h.is_id.name; member = h.is_id.member };
    spelled = ap (absolute_id to)
        (ap local_part h.spelled ∙ local_of id.namespace (id.name ++ member_text id.member) h.is_id.namespace);
  }

  renamed_text : (t : List ℕ) → IsIdText t → IsIdText (renamed_id from to t)
  renamed_text t (id, h) = elim (moved_or_not t) [
    | inl m ↦ subst IsIdText (sym m.now) (record { namespace = to; name = id.name; member = id.member }, other_id id t h)
    | inr same ↦ subst IsIdText (sym same) (id, h)
  ]

  renamed_shape : (t : List ℕ) → IsShapeId t → IsShapeId (renamed_id from to t)
  renamed_shape t (id, h, alone) = elim (moved_or_not t) [
    | inl m ↦ subst IsShapeId (sym m.now) (record { namespace = to; name = id.name; member = id.member }, other_id id t h, alone)
    | inr same ↦ subst IsShapeId (sym same) (id, h, alone)
  ]

  -- a member goes with its shape
  member_local : (t name : List ℕ) → IsShapeId t → local_part (member_id t name) ≡ local_part t ++ 36 ∷ name
  member_local t name shape_is =
      let p = id_parts t (shape_text t shape_is) in
      let ns = namespace_part t in
      let rest = local_part t in
      ap (λ s. local_part (s ++ 36 ∷ name)) p.whole ∙ ap local_part (append_assoc ns (35 ∷ rest) (36 ∷ name))
      ∙ local_of ns (rest ++ 36 ∷ name) p.namespace

  renamed_member : (t name : List ℕ) → IsShapeId t → renamed_id from to (member_id t name) ≡ member_id (renamed_id from to t) name
  renamed_member t name shape_is =
      let ns = member_namespace t name shape_is in
      elim (cases_Bool (is_of_namespace from t)) [
        | inl same ↦
            let of = (bytes_eq-Decides (namespace_part t) from).0 same in
            renamed_here (member_id t name) (ns ∙ of) ∙ ap (absolute_id to) (member_local t name shape_is)
            ∙ sym (append_assoc to (35 ∷ local_part t) (36 ∷ name)) ∙ ap (λ s. member_id s name) (sym (renamed_here t of))
        | inr other ↦
            renamed_else (member_id t name) (ap (λ n. bytes_eq n from) ns ∙ other) ∙ ap (λ s. member_id s name) (sym (renamed_else t other))
      ]

  -- ids that aren't of the other namespace stay apart
  renamed_apart : (a b : List ℕ) → IsIdText a → IsIdText b → (namespace_part a ≡ to → ⊥) → (namespace_part b ≡ to → ⊥)
      → renamed_id from to a ≡ renamed_id from to b → a ≡ b
  renamed_apart a b ta tb na nb same = elim (moved_or_not a) [
    | inl ma ↦ elim (moved_or_not b) [
      | inl mb ↦
          let locals : local_part a ≡ local_part b =
          sym (local_of to (local_part a) is) ∙ ap local_part (sym ma.now ∙ same ∙ mb.now) ∙ local_of to (local_part b) is in
          (id_parts a ta).whole ∙ ap (λ n. absolute_id n (local_part a)) (ma.of ∙ sym mb.of)
          ∙ ap (absolute_id (namespace_part b)) locals ∙ sym (id_parts b tb).whole
      | inr sb ↦ absurd (nb (ap namespace_part (sym sb ∙ sym same ∙ ma.now) ∙ namespace_of to (local_part a) is))
    ]
    | inr sa ↦ elim (moved_or_not b) [
      | inl mb ↦ absurd (na (ap namespace_part (sym sa ∙ same ∙ mb.now) ∙ namespace_of to (local_part b) is))
      | inr sb ↦ sym sa ∙ same ∙ sb
    ]
  ]

  module _ (g : GraphMaps) (sound : (k : List ℕ) (e : Entry) → HasEntry g k e → IsSoundEntry k e)
      (bodies : (id : List ℕ) (s : ShapeEntry) → HasEntry g id (shape_entry s) → HasShapeBody s.kind s.properties)
      (allowed : IsRefused g from to → ⊥) (has_api : (id : List ℕ) × IsInGraph g id × (namespace_part id ≡ api_namespace)) where
    fresh : IsKnownIn g to → ⊥
    fresh known = allowed (inr (inr known))

    some_same : (a b new : List ℕ) → renames from to a ≡ Some new → renames from to b ≡ Some new
        → renamed_id from to a ≡ renamed_id from to b
    some_same a b new h k = same_Some (renamed_id from to a) new h ∙ sym (same_Some (renamed_id from to b) new k)

    graph_id : (id : List ℕ) → IsInGraph g id → IsIdText id
    graph_id id h = sound_id id h.0 (sound id h.0 h.1)

    renaming_safe : IsSafeFor g (renames from to)
    renaming_safe = record {
      ids = λ id new id_is h. subst IsIdText (same_Some (renamed_id from to id) new h) (renamed_text id id_is);
      shapes = renamed_shape;
      members = λ t name new shape_is identifier h.
          sym (same_Some (renamed_id from to (member_id t name)) new h) ∙ renamed_member t name shape_is;
      homes = λ t name s shape_is there among left. refl;
      whole = λ id member s there id_is left among. refl;
      apart = λ a b x y same. renamed_apart a b (graph_id a x) (graph_id b y) (λ n. fresh (shape_known a x n))
          (λ n. fresh (shape_known b y n)) same;
      traits_apart = λ id a b new x y h k. renamed_apart a b
          (sound_traits id x.entry (sound id x.entry x.there) a x.value x.found).0
          (sound_traits id y.entry (sound id y.entry y.there) b y.value y.found).0
          (λ n. fresh (trait_known id a x n)) (λ n. fresh (trait_known id b y n)) (some_same a b new h k);
      keys_apart = λ a b new x y h k. renamed_apart a b (rename_id g bodies a x) (rename_id g bodies b y) (λ n. fresh (key_known a x n))
          (λ n. fresh (key_known b y n)) (some_same a b new h k);
    }

    -- what is of the prelude's namespace stays, and nothing comes into it
    api_kept : (id : List ℕ) → is_of_api id ≡ true → renames from to id ≡ Some id
    api_kept id api =
        ap (λ b. Some (if b then absolute_id to (local_part id) else id)) (by (is_of_namespace from id) refl)
      where
        by : (b : Bool) → is_of_namespace from id ≡ b → is_of_namespace from id ≡ false
        by false h = h
        by true h =
            let of_from = (bytes_eq-Decides (namespace_part id) from).0 h in
            let of_api = (bytes_eq-Decides (namespace_part id) api_namespace).0 api in
            absurd (allowed (inl (sym of_from ∙ of_api)))

    own_kept : (id : List ℕ) → IsInGraph g id → is_prelude_id id ≡ false → is_prelude_id (renamed_id from to id) ≡ false
    own_kept id has own = by (is_prelude_id (renamed_id from to id)) refl
      where
        by : (b : Bool) → is_prelude_id (renamed_id from to id) ≡ b → is_prelude_id (renamed_id from to id) ≡ false
        by false h = h
        by true h = elim (moved_or_not id) [
          | inl m ↦
              let now = renamed_id from to id in
              let of_api = (bytes_eq-Decides (namespace_part now) api_namespace).0 (id_of_api now h) in
              let here : to ≡ api_namespace = sym (ap namespace_part m.now ∙ namespace_of to (local_part id) is) ∙ of_api in
              absurd (fresh (shape_known has_api.0 has_api.1 (has_api.2 ∙ sym here)))
          | inr same ↦ absurd (true≢false (sym (sym (ap is_prelude_id same) ∙ h) ∙ own))
        ]

    pub rename_faithful : IsFaithful g (IsLeft (renames from to)) (id_after (renames from to)) (entry_after (renames from to))
    rename_faithful = left_faithful g (renames from to) renaming_safe renamed_member api_kept own_kept
