-- Ids whose namespace gets another name.
use Rattle.std.proofs.Common.{◌≡◌, ◌⊎◌, inl, inr, ℕ, true, false, List, [], ◌∷◌, ◌++◌, Some, refl, sym, ap, subst, ◌∙◌, append_assoc}
use Rattle.std.proofs.Common.{bytes_eq}
use Rattle.std.specs.Prelude.{if◌then◌else◌}
use Rattle.std.proofs.lemmas.Bool.{cases_Bool}
use Rattle.std.proofs.lemmas.Option.{same_Some}
use Rattle.std.proofs.lemmas.Slice.Eq.{bytes_eq-Decides}
use Rattle.sm_ids.specs.Identifier.{IsIdentifier, IsNamespace}
use Rattle.sm_ids.specs.IdText.{Id, IdText, IsIdText, IsShapeId, member_text}
use Rattle.sm_ids.specs.TextParts.{absolute_id, local_part, member_id, namespace_part}
use Rattle.sm_ids.proofs.MadeIds.{member_spelled}
use Rattle.sm_tree.specs.Node.{Members, Node, object, member, no_members, null, bool, int, number, text, bytes, tag, opaque, list}
use Rattle.sm_tree.specs.Parts.{pairs_in}
use Rattle.sm_tree.specs.Same.{HasName, HasPair}
use Rattle.sm_model.specs.Formed.{StandsAmong}
use Rattle.sm_model.specs.FormedGraph.{IsFormedGraph}
use Rattle.sm_model.specs.Given.{AreNodeFields, AreRenamed, IsNodeMap, NodeHasForm}
use Rattle.sm_model.specs.Graphs.{Entry, GraphMaps, member_entry, shape_entry}
use Rattle.sm_model.specs.Properties.{TypeFields, form_named, property_forms}
use Rattle.sm_model.specs.Relations.{HasBodyPair, HasEntry}
use Rattle.sm_model.specs.declared.property.PropertyForm.{PropertyForm}
use Rattle.sm_model.specs.declared.property.PropertyForm.TheVariants.{Rename}
use Rattle.sm_model.proofs.GivenEntries.{AreThere, MemberThere, ids_there}
use Rattle.sm_transform.specs.Namespaces.{is_of_namespace}
use Rattle.sm_transform.specs.Renamed.{HasTraitIds, IsKnownIn, IsRenameKey, key_known, renamed_id, renames, shape_known, trait_known}
use Rattle.sm_transform.specs.steps.Changing.{IsSafeFor}
use Rattle.sm_transform.proofs.FormedHomes.{home_of, whole_at}
use Rattle.sm_transform.proofs.IdNamespaces.{id_parts, local_of, member_namespace, namespace_of, shape_text}

-- the id of a member
pub member_text_is : (shape name : List ℕ) → IsShapeId shape → IsIdentifier name → IsIdText (member_id shape name)
member_text_is shape name (id, spelt, alone) identifier = (
  record { namespace = id.namespace; name = id.name; member = Some name },
  record {
    is_id = record {
      namespace = spelt.is_id.namespace;
      name = spelt.is_id.name;
      member = λ m same. subst IsIdentifier
          (same_Some name m same) identifier;
    };
    spelled = sym (member_spelled shape (id, spelt, alone) id spelt name);
  },
)

-- an object says its pairs alone, and a body that has a pair is an object
pub one_object : (a b : Members) → object a ≡ object b → a ≡ b
one_object a b same = same_Some a b (ap pairs_in same)

pub body_object : (k : List ℕ) (n p : Node) → HasBodyPair k n p → (ms : Members) × (p ≡ object ms) × HasPair k n ms
body_object k n (object ms) h = (ms, refl, h)
body_object k n (text t) h = absurd h
body_object k n (list ns) h = absurd h
body_object k n null h = absurd h
body_object k n (bool b) h = absurd h
body_object k n (int z) h = absurd h
body_object k n (number t) h = absurd h
body_object k n (bytes t) h = absurd h
body_object k n (tag i m) h = absurd h
body_object k n (opaque b) h = absurd h

-- ids of a graph are ids
module _ (g : GraphMaps) (f : IsFormedGraph g) where
  listed_text : (id : List ℕ) → IsShapeId id → (ws : List MemberThere) → AreThere IsNodeMap g.shapes id ws → (k : List ℕ)
      → StandsAmong k (ids_there id ws) → IsIdText k
  listed_text id is [] there k among = absurd among
  listed_text id is (w ∷ ws) there k (inl same) = subst IsIdText (sym same) (member_text_is id w.name is there.0.name)
  listed_text id is (w ∷ ws) there k (inr later) = listed_text id is ws there.1 k later

  pub graph_id : (id : List ℕ) (e : Entry) → HasEntry g id e → IsIdText id
  graph_id id (shape_entry s) h = shape_text id (whole_at g f id s h).is_shape
  graph_id id (member_entry m) h =
      let home = home_of g f id m h in
      let w = whole_at g f home.shape home.s home.there in
      listed_text home.shape w.is_shape w.members w.there id (subst (StandsAmong id) w.ids home.listed)

  -- and so are keys of `rename`
  field_form : (fs : TypeFields) (ms : Members) → AreNodeFields fs ms → (k : List ℕ) (n : Node) → HasPair k n ms → (form : PropertyForm)
      → form_named k fs ≡ Some form → NodeHasForm form n
  field_form fs no_members h k n pair form named = absurd pair
  field_form fs (member j x ms) h k n (inl (key_is, value)) form named =
      let f = h.0 in
      let same : f.0 ≡ form = same_Some f.0 form (sym f.1 ∙ ap (λ y. form_named y fs) (sym key_is) ∙ named) in
      subst (NodeHasForm form) (sym value) (subst (λ y. NodeHasForm y x) same f.2)
  field_form fs (member j x ms) h k n (inr later) form named = field_form fs ms h.1 k n later form named

  renamed_key : (ms : Members) → AreRenamed ms → (k : List ℕ) → HasName k ms → IsIdText k
  renamed_key no_members h k named = absurd named
  renamed_key (member j n ms) h k (inl same) = subst IsIdText (sym same) h.0
  renamed_key (member j n ms) h k (inr later) = renamed_key ms h.2 k later

  pub rename_id : (k : List ℕ) → IsRenameKey g k → IsIdText k
  rename_id k r =
      let h = r.renames in
      let w = whole_at g f r.id r.s r.there in
      let o = body_object h.field (object h.pairs) r.s.properties h.body in
      let same : o.0 ≡ w.body.pairs = one_object o.0 w.body.pairs (sym o.1 ∙ w.body.is_object) in
      let form = field_form (property_forms r.s.kind) w.body.pairs w.body.fields h.field (object h.pairs)
      (subst (HasPair h.field (object h.pairs)) same o.2) Rename h.form in
      let pairs : h.pairs ≡ form.0 = one_object h.pairs form.0 form.1 in
      renamed_key h.pairs (subst AreRenamed (sym pairs) form.2) k h.among

module _ (from to : List ℕ) (is : IsNamespace to) where
  pub renamed_here : (id : List ℕ) → namespace_part id ≡ from → renamed_id from to id ≡ absolute_id to (local_part id)
  renamed_here id same = ap (λ b. if b then absolute_id to (local_part id) else id) ((bytes_eq-Decides (namespace_part id) from).1 same)

  pub renamed_else : (id : List ℕ) → is_of_namespace from id ≡ false → renamed_id from to id ≡ id
  renamed_else id other = ap (λ b. if b then absolute_id to (local_part id) else id) other

  -- either way
  pub record IsMoved (id : List ℕ) : Type 0 where
    pub of : namespace_part id ≡ from
    pub now : renamed_id from to id ≡ absolute_id to (local_part id)

  pub moved_or_not : (id : List ℕ) → IsMoved id ⊎ (renamed_id from to id ≡ id)
  moved_or_not id = elim (cases_Bool (is_of_namespace from id)) [
    | inl same ↦
        let of = (bytes_eq-Decides (namespace_part id) from).0 same in inl (record { of = of; now = renamed_here id of })
    | inr other ↦ inr (renamed_else id other)
  ]

  -- an id in the other namespace
  other_id : (id : Id) (t : List ℕ) → IdText id t → IdText (record { namespace = to; name = id.name; member = id.member })
      (absolute_id to (local_part t))
  other_id id t h = record {
    is_id = record { namespace = is; name = h.is_id.name; member = h.is_id.member };
    spelled = ap (absolute_id to)
        (ap local_part h.spelled ∙ local_of id.namespace (id.name ++ member_text id.member) h.is_id.namespace);
  }

  pub renamed_text : (t : List ℕ) → IsIdText t → IsIdText (renamed_id from to t)
  renamed_text t (id, h) = elim (moved_or_not t) [
    | inl m ↦ subst IsIdText (sym m.now) (record { namespace = to; name = id.name; member = id.member }, other_id id t h)
    | inr same ↦ subst IsIdText (sym same) (id, h)
  ]

  pub renamed_shape : (t : List ℕ) → IsShapeId t → IsShapeId (renamed_id from to t)
  renamed_shape t (id, h, alone) = elim (moved_or_not t) [
    | inl m ↦ subst IsShapeId (sym m.now) (record { namespace = to; name = id.name; member = id.member }, other_id id t h, alone)
    | inr same ↦ subst IsShapeId (sym same) (id, h, alone)
  ]

  -- a member goes with its shape
  member_local : (t name : List ℕ) → IsShapeId t → local_part (member_id t name) ≡ local_part t ++ 36 ∷ name
  member_local t name shape_is =
      let p = id_parts t (shape_text t shape_is) in
      let ns = namespace_part t in
      let rest = local_part t in
      ap (λ s. local_part (s ++ 36 ∷ name)) p.whole ∙ ap local_part (append_assoc ns (35 ∷ rest) (36 ∷ name))
      ∙ local_of ns (rest ++ 36 ∷ name) p.namespace

  pub renamed_member : (t name : List ℕ) → IsShapeId t → renamed_id from to (member_id t name) ≡ member_id (renamed_id from to t) name
  renamed_member t name shape_is =
      let ns = member_namespace t name shape_is in
      elim (cases_Bool (is_of_namespace from t)) [
        | inl same ↦
            let of = (bytes_eq-Decides (namespace_part t) from).0 same in
            renamed_here (member_id t name) (ns ∙ of) ∙ ap (absolute_id to) (member_local t name shape_is)
            ∙ sym (append_assoc to (35 ∷ local_part t) (36 ∷ name)) ∙ ap (λ s. member_id s name) (sym (renamed_here t of))
        | inr other ↦
            renamed_else (member_id t name) (ap (λ n. bytes_eq n from) ns ∙ other) ∙ ap (λ s. member_id s name) (sym (renamed_else t other))
      ]

  -- ids that aren't of the other namespace stay apart
  pub renamed_apart : (a b : List ℕ) → IsIdText a → IsIdText b → (namespace_part a ≡ to → ⊥) → (namespace_part b ≡ to → ⊥)
      → renamed_id from to a ≡ renamed_id from to b → a ≡ b
  renamed_apart a b ta tb na nb same = elim (moved_or_not a) [
    | inl ma ↦ elim (moved_or_not b) [
      | inl mb ↦
          let locals : local_part a ≡ local_part b =
          sym (local_of to (local_part a) is) ∙ ap local_part (sym ma.now ∙ same ∙ mb.now) ∙ local_of to (local_part b) is in
          (id_parts a ta).whole ∙ ap (λ n. absolute_id n (local_part a)) (ma.of ∙ sym mb.of)
          ∙ ap (absolute_id (namespace_part b)) locals ∙ sym (id_parts b tb).whole
      | inr sb ↦ absurd (nb (ap namespace_part (sym sb ∙ sym same ∙ ma.now) ∙ namespace_of to (local_part a) is))
    ]
    | inr sa ↦ elim (moved_or_not b) [
      | inl mb ↦ absurd (na (ap namespace_part (sym sa ∙ same ∙ mb.now) ∙ namespace_of to (local_part b) is))
      | inr sb ↦ sym sa ∙ same ∙ sb
    ]
  ]

  -- and a graph is left whole
  module _ (g : GraphMaps) (f : IsFormedGraph g) (traits : HasTraitIds g) (fresh : IsKnownIn g to → ⊥) where
    some_same : (a b new : List ℕ) → renames from to a ≡ Some new → renames from to b ≡ Some new
        → renamed_id from to a ≡ renamed_id from to b
    some_same a b new h k = same_Some (renamed_id from to a) new h ∙ sym (same_Some (renamed_id from to b) new k)

    pub renaming_safe : IsSafeFor g (renames from to)
    renaming_safe = record {
      ids = λ id new id_is h. subst IsIdText (same_Some (renamed_id from to id) new h) (renamed_text id id_is);
      shapes = renamed_shape;
      members = λ t name new shape_is identifier h.
          sym (same_Some (renamed_id from to (member_id t name)) new h) ∙ renamed_member t name shape_is;
      homes = λ t name s shape_is there among left. refl;
      whole = λ id member s there id_is left among. refl;
      apart = λ a b x y same. renamed_apart a b (graph_id g f a x.0 x.1) (graph_id g f b y.0 y.1) (λ n. fresh (shape_known a x n))
          (λ n. fresh (shape_known b y n)) same;
      traits_apart = λ id a b new x y h k. renamed_apart a b (traits id a x) (traits id b y) (λ n. fresh (trait_known id a x n))
          (λ n. fresh (trait_known id b y n)) (some_same a b new h k);
      keys_apart = λ a b new x y h k. renamed_apart a b (rename_id g f a x) (rename_id g f b y) (λ n. fresh (key_known a x n))
          (λ n. fresh (key_known b y n)) (some_same a b new h k);
    }

  -- an id by its parts
  pub renamed_parts : (id : Id) (t : List ℕ) → IdText id t → bytes_eq id.namespace from ≡ true
      → renamed_id from to t ≡ absolute_id to (id.name ++ member_text id.member)
  renamed_parts id t h same =
      let rest = id.name ++ member_text id.member in
      let front = ap namespace_part h.spelled ∙ namespace_of id.namespace rest h.is_id.namespace in
      renamed_here t (front ∙ (bytes_eq-Decides id.namespace from).0 same)
      ∙ ap (absolute_id to) (ap local_part h.spelled ∙ local_of id.namespace rest h.is_id.namespace)

  pub renamed_other : (id : Id) (t : List ℕ) → IdText id t → bytes_eq id.namespace from ≡ false → renamed_id from to t ≡ t
  renamed_other id t h other =
      let rest = id.name ++ member_text id.member in
      let front = ap namespace_part h.spelled ∙ namespace_of id.namespace rest h.is_id.namespace in
      renamed_else t (ap (λ n. bytes_eq n from) front ∙ other)
