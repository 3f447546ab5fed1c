-- What becomes of a shape where ids become others or are gone, so that what it leaves of a graph is one: the members that are left, a body
-- as a statement comes to, and traits under ids. So such a change is faithful.
use Rattle.std.proofs.Common.{◌≡◌, inl, inr, ℕ, Bool, true, false, cond, List, [], ◌∷◌, filter, map, Option, Some, None}
use Rattle.std.proofs.Common.{refl, sym, ap}
use Rattle.std.proofs.Common.{subst, ◌∙◌}
use Rattle.std.specs.Prelude.{is_some}
use Rattle.std.specs.List.{cons_option, filter_map}
use Rattle.std.specs.Option.{unwrap_or}
use Rattle.sm_ids.specs.IdText.{IsShapeId}
use Rattle.sm_ids.specs.TextParts.{member_id}
use Rattle.sm_tree.specs.Node.{Members, object}
use Rattle.sm_tree.specs.Same.{HasName, HasPair}
use Rattle.sm_model.specs.Formed.{DifferInNames, HaveForm, StandsAmong}
use Rattle.sm_model.specs.Graphs.{GraphMaps, ShapeEntry, shape_entry}
use Rattle.sm_model.specs.Kinds.{member_form}
use Rattle.sm_model.specs.PreludeShapes.{is_prelude_id}
use Rattle.sm_model.specs.Properties.{form_named, property_forms}
use Rattle.sm_model.specs.Relations.{HasBodyPair, HasEntry, IsInGraph}
use Rattle.sm_model.specs.declared.kind.Kind.{Kind}
use Rattle.sm_model.specs.declared.kind.Kind.TheVariants.{Blob, Boolean, Text as text_kind, Enum, Byte, Short, Integer, IntEnum, Long}
use Rattle.sm_model.specs.declared.kind.Kind.TheVariants.{Float, Double}
use Rattle.sm_model.specs.declared.kind.Kind.TheVariants.{BigInteger, BigDecimal, Timestamp, Document, List as list_kind, Map, Structure}
use Rattle.sm_model.specs.declared.kind.Kind.TheVariants.{Union}
use Rattle.sm_model.specs.declared.kind.Kind.TheVariants.{Service, Operation, Resource}
use Rattle.sm_model.specs.declared.property.PropertyForm.TheVariants.{Rename}
use Rattle.sm_merge.specs.Merged.{enum_value}
use Rattle.sm_merge.proofs.RegularGraphs.{IsRegularShape}
use Rattle.sm_transform.specs.IdChanges.{IdChange, body_after, entry_after, id_after, traits_after}
use Rattle.sm_transform.specs.Namespaces.{is_of_api}
use Rattle.sm_transform.specs.Renamed.{IsRenameKey}
use Rattle.sm_transform.specs.steps.Changing.{IsLeft, IsSafeFor}
use Rattle.sm_changed_again.proofs.BodyRows.{IsBodyLeft, body_left}
use Rattle.sm_changed_again.proofs.Faithful.{IsFaithful, IsShapeKept}
use Rattle.sm_changed_again.proofs.IdParts.{prelude_of_api, id_of_api}
use Rattle.sm_changed_again.proofs.KeptGraphs.{named_listed}
use Rattle.sm_changed_again.proofs.LeftEntries.{member_kept, no_larger, prelude_still, traits_hold}

module _ (change : IdChange) (id : List ℕ) where
  abbrev stays : List ℕ → Bool
  stays name = is_some (change (member_id id name))

  -- names that are left
  abbrev names_left : List (List ℕ) → List (List ℕ)
  names_left names = filter stays names

  left_among : (name : List ℕ) (names : List (List ℕ)) → StandsAmong name (names_left names)
      → StandsAmong name names × IsLeft change (member_id id name)
  left_among name [] h = absurd h
  left_among name (k ∷ ks) h = by (stays k) refl (left_among name ks) h
    where
      by : (b : Bool) → stays k ≡ b
          → (StandsAmong name (names_left ks) → StandsAmong name ks × IsLeft change (member_id id name))
          → StandsAmong name (cond b (k ∷ names_left ks) (names_left ks)) → StandsAmong name (k ∷ ks) × IsLeft change (member_id id name)
      by true is rest (inl same) = (inl same, ap stays same ∙ is)
      by true is rest (inr later) = let r = rest later in (inr r.0, r.1)
      by false is rest later = let r = rest later in (inr r.0, r.1)

  among_left : (name : List ℕ) (names : List (List ℕ)) → StandsAmong name names → IsLeft change (member_id id name)
      → StandsAmong name (names_left names)
  among_left name [] h is = absurd h
  among_left name (k ∷ ks) (inl same) is =
      subst (λ b. StandsAmong name (cond b (k ∷ names_left ks) (names_left ks))) (sym (ap stays (sym same) ∙ is)) (inl same)
  among_left name (k ∷ ks) (inr later) is = behind (stays k) (among_left name ks later is)
    where
      behind : (b : Bool) → StandsAmong name (names_left ks) → StandsAmong name (cond b (k ∷ names_left ks) (names_left ks))
      behind true h = inr h
      behind false h = h

  differ_left : (names : List (List ℕ)) → DifferInNames names → DifferInNames (names_left names)
  differ_left [] d = tt
  differ_left (k ∷ ks) d = by (stays k) (differ_left ks d.1)
    where
      by : (b : Bool) → DifferInNames (names_left ks) → DifferInNames (cond b (k ∷ names_left ks) (names_left ks))
      by true rest = ((λ among. d.0 (left_among k ks among).0), rest)
      by false rest = rest

  all_left : (names : List (List ℕ)) → ((name : List ℕ) → StandsAmong name names → IsLeft change (member_id id name))
      → names_left names ≡ names
  all_left [] h = refl
  all_left (k ∷ ks) h =
      ap (λ b. cond b (k ∷ names_left ks) (names_left ks)) (h k (inl refl))
      ∙ ap (λ xs. k ∷ xs) (all_left ks (λ name among. h name (inr among)))

  none_left : (names : List (List ℕ)) → names ≡ [] → names_left names ≡ []
  none_left names none = ap names_left none

  form_left : (kind : Kind) (names : List (List ℕ))
      → ((kind ≡ list_kind) → (name : List ℕ) → StandsAmong name names → IsLeft change (member_id id name))
      → ((kind ≡ Map) → (name : List ℕ) → StandsAmong name names → IsLeft change (member_id id name))
      → HaveForm (member_form kind) names → HaveForm (member_form kind) (names_left names)
  form_left list_kind names l m h = all_left names (l refl) ∙ h
  form_left Map names l m h = all_left names (m refl) ∙ h
  form_left Structure names l m h = differ_left names h
  form_left Union names l m h = differ_left names h
  form_left Enum names l m h = differ_left names h
  form_left IntEnum names l m h = differ_left names h
  form_left Blob names l m h = none_left names h
  form_left Boolean names l m h = none_left names h
  form_left text_kind names l m h = none_left names h
  form_left Byte names l m h = none_left names h
  form_left Short names l m h = none_left names h
  form_left Integer names l m h = none_left names h
  form_left Long names l m h = none_left names h
  form_left Float names l m h = none_left names h
  form_left Double names l m h = none_left names h
  form_left BigInteger names l m h = none_left names h
  form_left BigDecimal names l m h = none_left names h
  form_left Timestamp names l m h = none_left names h
  form_left Document names l m h = none_left names h
  form_left Service names l m h = none_left names h
  form_left Operation names l m h = none_left names h
  form_left Resource names l m h = none_left names h

  -- and their ids
  ids_left : ((name : List ℕ) → id_after change (member_id id name) ≡ member_id (id_after change id) name) → (names : List (List ℕ))
      → filter_map change (map (member_id id) names) ≡ map (member_id (id_after change id)) (names_left names)
  ids_left moved [] = refl
  ids_left moved (k ∷ ks) =
      ap (λ xs. cons_option (change (member_id id k)) xs) (ids_left moved ks) ∙ by (change (member_id id k)) refl
    where
      rest : List (List ℕ)
      rest = map (member_id (id_after change id)) (names_left ks)

      by : (o : Option (List ℕ)) → change (member_id id k) ≡ o
          → cons_option o rest ≡ map (member_id (id_after change id)) (cond (is_some o) (k ∷ names_left ks) (names_left ks))
      by None is = refl
      by (Some new) is = ap (λ x. x ∷ rest) (sym (ap (λ o. unwrap_or o (member_id id k)) is) ∙ moved k)

module _ (g : GraphMaps) (change : IdChange) (safe : IsSafeFor g change)
    (moved : (shape name : List ℕ) → IsShapeId shape
    → id_after change (member_id shape name) ≡ member_id (id_after change shape) name) where
  body_kept : (id : List ℕ) (s : ShapeEntry) → HasEntry g id (shape_entry s) → (r : IsRegularShape g id s)
      → IsBodyLeft change s.kind s.properties
  body_kept id s there r =
      body_left change safe.ids s.kind s.properties r.given r.comes r.body (λ k rs pair named a b new x y.
      safe.keys_apart a b new (key k rs pair named a x) (key k rs pair named b y))
    where
      key : (k : List ℕ) (rs : Members) → HasPair k (object rs) r.body.pairs → form_named k (property_forms s.kind) ≡ Some Rename
          → (a : List ℕ) → HasName a rs → IsRenameKey g a
      key k rs pair named a x = record {
        id = id;
        s = s;
        there = there;
        renames = record {
          field = k;
          pairs = rs;
          body = subst (HasBodyPair k (object rs)) (sym r.body.is_object) pair;
          form = named;
          among = x;
        };
      }

  shape_kept : (id : List ℕ) (s : ShapeEntry) → HasEntry g id (shape_entry s) → IsLeft change id → (r : IsRegularShape g id s)
      → IsShapeKept (IsLeft change) (id_after change) (entry_after change) id s r.names
  shape_kept id s has left r =
      let left_of = body_kept id s has r in
      let listed : (name : List ℕ) → StandsAmong name r.names → StandsAmong (member_id id name) s.members =
      λ name among. subst (StandsAmong (member_id id name)) (sym r.members) (named_listed id name r.names among) in record {
        now = record {
          kind = s.kind;
          members = filter_map change s.members;
          properties = body_after change s.kind s.properties;
          traits = traits_after change s.traits;
        };
        is = refl;
        kind = refl;
        left = names_left change id r.names;
        differ = differ_left change id r.names r.differ;
        members = ap (filter_map change) r.members ∙ ids_left change id (λ name. moved id name r.is) r.names;
        stay = λ name among. left_among change id name r.names among;
        all = λ name among is. among_left change id name r.names among is;
        form = form_left change id s.kind r.names
            (λ is name among. safe.whole id (member_id id name) s has (shape_entry s, has, inl is) left (listed name among))
            (λ is name among. safe.whole id (member_id id name) s has (shape_entry s, has, inr is) left (listed name among));
        given = body_after change s.kind s.properties;
        comes = left_of.comes;
        body = left_of.body;
        traits = traits_hold change safe.ids s.traits;
      }

  pub left_faithful : ((id : List ℕ) → is_of_api id ≡ true → change id ≡ Some id)
      → ((id : List ℕ) → IsInGraph g id → is_prelude_id id ≡ false → is_prelude_id (id_after change id) ≡ false)
      → IsFaithful g (IsLeft change) (id_after change) (entry_after change)
  left_faithful api own = record {
    prelude = λ id e is. (ap is_some (api id (prelude_of_api id e is)), prelude_still change api id e is);
    kept_ids = λ id is. ap (λ o. unwrap_or o id) (api id (id_of_api id is));
    own = own;
    ids = safe.shapes;
    members = moved;
    homes = λ shape name s there is listed has stays. safe.homes shape name s is there listed stays;
    shape = shape_kept;
    member = λ id m has stays. member_kept change safe.ids (api enum_value refl) m;
    sizes = λ id e has. no_larger change e;
  }
