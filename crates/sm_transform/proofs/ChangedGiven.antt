-- What becomes of a whole shape where ids become others or are gone: a graph may be made of it, and each of its entries is what becomes of
-- one of the shape's.
use Rattle.std.proofs.Common.{◌≡◌, ◌≤◌, ◌+◌, inl, inr, ℕ, true, List, [], ◌∷◌, map, length, Option, Some, None, refl, sym, ap, subst}
use Rattle.std.proofs.Common.{◌∙◌, arith}
use Rattle.std.specs.Prelude.{is_some}
use Rattle.std.specs.FinMap as fin
use Rattle.std.specs.List.{cons_option, filter_map}
use Rattle.std.specs.Option.{option_map, unwrap_or}
use Rattle.sm_ids.specs.IdText.{IsIdText, IsShapeId}
use Rattle.sm_ids.specs.TextParts.{member_id}
use Rattle.sm_tree.specs.Node.{Members, object}
use Rattle.sm_tree.specs.Same.{HasName, HasPair}
use Rattle.sm_model.specs.Formed.{DifferInNames, HaveForm, StandsAmong}
use Rattle.sm_model.specs.Given.{AreGivenMembers, HasShapeBody, IsGivenShape, IsNodeMap, are_under, given_names}
use Rattle.sm_model.specs.Graphs.{Entry, GraphMaps, MemberGiven, ShapeEntry, ShapeGiven, given_members}
use Rattle.sm_model.specs.Graphs.{given_shape, member_entry, shape_entry, traits_in}
use Rattle.sm_model.specs.Kinds.{member_form}
use Rattle.sm_model.specs.Properties.{form_named, property_forms}
use Rattle.sm_model.specs.Relations.{HasBodyPair, HasEntry}
use Rattle.sm_model.specs.declared.kind.Kind.{Kind}
use Rattle.sm_model.specs.declared.kind.Kind.TheVariants.{Blob, Boolean, Text as text_kind, Enum, Byte, Short, Integer, IntEnum, Long}
use Rattle.sm_model.specs.declared.kind.Kind.TheVariants.{Float, Double}
use Rattle.sm_model.specs.declared.kind.Kind.TheVariants.{BigInteger, BigDecimal, Timestamp, Document, List as list_kind, Map, Structure}
use Rattle.sm_model.specs.declared.kind.Kind.TheVariants.{Union}
use Rattle.sm_model.specs.declared.kind.Kind.TheVariants.{Service, Operation, Resource}
use Rattle.sm_model.specs.declared.property.PropertyForm.TheVariants.{Rename}
use Rattle.sm_model.proofs.GivenEntries.{AreThere, IsWholeShape, MemberThere, ids_there, names_there}
use Rattle.sm_model.proofs.MapFacts.{Each, keys}
use Rattle.sm_model.proofs.Worklist.{apart}
use Rattle.sm_transform.specs.IdChanges.{IdChange, body_after, entry_after, id_after, trait_after}
use Rattle.sm_transform.specs.Included.{CarriesTrait}
use Rattle.sm_transform.specs.Renamed.{IsRenameKey}
use Rattle.sm_transform.specs.steps.Changing.{IsLeft, IsSafeFor}
use Rattle.sm_transform.proofs.ChangedNodes.{body_left, traits_left}
use Rattle.sm_transform.proofs.FoundEntries.{key_found}
use Rattle.sm_transform.proofs.MadeOfGiven.{Comes}

-- a member, and a shape, as they are given then
abbrev pub member_left : IdChange → List ℕ → MemberThere → Option MemberGiven
member_left change id w =
    option_map (λ new. record {
      name = w.name;
      target = id_after change w.entry.target;
      traits = filter_map (trait_after change) (fin.entries w.entry.traits);
    }) (change (member_id id w.name))

abbrev pub members_left : IdChange → List ℕ → List MemberThere → List MemberGiven
members_left change id ws = filter_map (member_left change id) ws

abbrev pub shape_left : IdChange → List ℕ → ShapeEntry → List MemberThere → ShapeGiven
shape_left change id s ws = record {
  id = id_after change id;
  kind = s.kind;
  members = members_left change id ws;
  properties = body_after change s.kind s.properties;
  traits = filter_map (trait_after change) (fin.entries s.traits);
}

module _ (change : IdChange) (id : List ℕ) where
  -- names that are left
  abbrev Made : MemberThere → List ℕ → MemberGiven
  Made w new = record {
    name = w.name;
    target = id_after change w.entry.target;
    traits = filter_map (trait_after change) (fin.entries w.entry.traits);
  }

  name_put : (w : MemberThere) (o : Option (List ℕ)) (ms : List MemberGiven) (ks : List (List ℕ)) (k : List ℕ)
      → (StandsAmong k (given_names ms) → StandsAmong k ks) → StandsAmong k (given_names (cons_option (option_map (Made w) o) ms))
      → StandsAmong k (w.name ∷ ks)
  name_put w None ms ks k later h = inr (later h)
  name_put w (Some new) ms ks k later (inl same) = inl same
  name_put w (Some new) ms ks k later (inr h) = inr (later h)

  names_inside : (ws : List MemberThere) (k : List ℕ) → StandsAmong k (given_names (members_left change id ws))
      → StandsAmong k (names_there ws)
  names_inside [] k h = h
  names_inside (w ∷ ws) k h =
      name_put w (change (member_id id w.name)) (members_left change id ws) (names_there ws) k (names_inside ws k) h

  differ_put : (w : MemberThere) (o : Option (List ℕ)) (ms : List MemberGiven) → (StandsAmong w.name (given_names ms) → ⊥)
      → DifferInNames (given_names ms) → DifferInNames (given_names (cons_option (option_map (Made w) o) ms))
  differ_put w None ms new d = d
  differ_put w (Some n) ms new d = (new, d)

  names_differ : (ws : List MemberThere) → DifferInNames (names_there ws) → DifferInNames (given_names (members_left change id ws))
  names_differ [] d = tt
  names_differ (w ∷ ws) d =
      differ_put w (change (member_id id w.name)) (members_left change id ws) (λ h. d.0 (names_inside ws w.name h)) (names_differ ws d.1)

  none_left : (ws : List MemberThere) → names_there ws ≡ [] → given_names (members_left change id ws) ≡ []
  none_left [] h = refl
  none_left (w ∷ ws) h = absurd (let n = ap length h in omega (arith, n))

  kept_put : (w : MemberThere) (o : Option (List ℕ)) (ms : List MemberGiven) → is_some o ≡ true
      → given_names (cons_option (option_map (Made w) o) ms) ≡ w.name ∷ given_names ms
  kept_put w None ms h = absurd (apart h)
  kept_put w (Some n) ms h = refl

  all_left : (ws : List MemberThere) → ((k : List ℕ) → StandsAmong k (ids_there id ws) → IsLeft change k)
      → given_names (members_left change id ws) ≡ names_there ws
  all_left [] h = refl
  all_left (w ∷ ws) h =
      kept_put w (change (member_id id w.name)) (members_left change id ws) (h (member_id id w.name) (inl refl))
      ∙ ap (λ ks. w.name ∷ ks) (all_left ws (λ k among. h k (inr among)))

  -- and no more members
  few_put : (o : Option MemberGiven) (ms : List MemberGiven) (n : ℕ) → length ms ≤ n → length (cons_option o ms) ≤ n + 1
  few_put None ms n h = omega (arith, h)
  few_put (Some m) ms n h = omega (arith, h)

  pub few_left : (ws : List MemberThere) → length (members_left change id ws) ≤ length ws
  few_left [] = omega arith
  few_left (w ∷ ws) =
      let rest = few_left ws in
      let put = few_put (member_left change id w) (members_left change id ws) (length ws) rest in
      omega (arith, put)

  -- the names of a type
  form_left : (kind : Kind) (ws : List MemberThere) → ((kind ≡ list_kind) → (k : List ℕ) → StandsAmong k (ids_there id ws)
      → IsLeft change k)
      → ((kind ≡ Map) → (k : List ℕ) → StandsAmong k (ids_there id ws) → IsLeft change k)
      → HaveForm (member_form kind) (names_there ws) → HaveForm (member_form kind) (given_names (members_left change id ws))
  form_left list_kind ws l m h = all_left ws (l refl) ∙ h
  form_left Map ws l m h = all_left ws (m refl) ∙ h
  form_left Structure ws l m h = names_differ ws h
  form_left Union ws l m h = names_differ ws h
  form_left Enum ws l m h = names_differ ws h
  form_left IntEnum ws l m h = names_differ ws h
  form_left Blob ws l m h = none_left ws h
  form_left Boolean ws l m h = none_left ws h
  form_left text_kind ws l m h = none_left ws h
  form_left Byte ws l m h = none_left ws h
  form_left Short ws l m h = none_left ws h
  form_left Integer ws l m h = none_left ws h
  form_left Long ws l m h = none_left ws h
  form_left Float ws l m h = none_left ws h
  form_left Double ws l m h = none_left ws h
  form_left BigInteger ws l m h = none_left ws h
  form_left BigDecimal ws l m h = none_left ws h
  form_left Timestamp ws l m h = none_left ws h
  form_left Document ws l m h = none_left ws h
  form_left Service ws l m h = none_left ws h
  form_left Operation ws l m h = none_left ws h
  form_left Resource ws l m h = none_left ws h

module _ (g : GraphMaps) (change : IdChange) (safe : IsSafeFor g change) where
  target_left : (t : List ℕ) (o : Option (List ℕ)) → change t ≡ o → IsIdText t → IsIdText (unwrap_or o t)
  target_left t None is h = h
  target_left t (Some u) is h = safe.ids t u h is

  carried : (id : List ℕ) (e : Entry) (t : List ℕ) → HasEntry g id e → StandsAmong t (are_under (fin.entries (traits_in e)))
      → CarriesTrait g id t
  carried id e t there among =
      let found = key_found (traits_in e) t among in
      record { entry = e; there = there; value = found.0; found = found.1 }

  map_left : (id : List ℕ) (e : Entry) → HasEntry g id e → IsNodeMap (fin.entries (traits_in e))
      → IsNodeMap (filter_map (trait_after change) (fin.entries (traits_in e)))
  map_left id e there is =
      traits_left change (fin.entries (traits_in e)) is
      (λ a b new x y. safe.traits_apart id a b new (carried id e a there x) (carried id e b there y))

  members_given : (id : List ℕ) (ws : List MemberThere) → AreThere IsNodeMap g.shapes id ws → AreGivenMembers (members_left change id ws)
  members_given id [] there = tt
  members_given id (w ∷ ws) there =
      let h = there.0 in
      put (change (member_id id w.name)) (
        h.name,
        target_left w.entry.target (change w.entry.target) refl h.target,
        map_left (member_id id w.name) (member_entry w.entry) h.found h.traits,
        members_given id ws there.1,
      )
    where
      put : (o : Option (List ℕ)) → AreGivenMembers (Made change id w (member_id id w.name) ∷ members_left change id ws)
          → AreGivenMembers (cons_option (option_map (Made change id w) o) (members_left change id ws))
      put None h = h.3
      put (Some new) h = h

  body_given : (id : List ℕ) (s : ShapeEntry) → HasEntry g id (shape_entry s) → HasShapeBody s.kind s.properties
      → HasShapeBody s.kind (body_after change s.kind s.properties)
  body_given id s there h =
      body_left change safe.ids s.kind s.properties h (λ k rs pair named a b new x y.
      safe.keys_apart a b new (key k rs pair named a x) (key k rs pair named b y))
    where
      key : (k : List ℕ) (rs : Members) → HasPair k (object rs) h.pairs → form_named k (property_forms s.kind) ≡ Some Rename
          → (a : List ℕ) → HasName a rs → IsRenameKey g a
      key k rs pair named a x = record {
        id = id;
        s = s;
        there = there;
        renames = record {
          field = k;
          pairs = rs;
          body = subst (HasBodyPair k (object rs)) (sym h.is_object) pair;
          form = named;
          among = x;
        };
      }

  pub left_given : (id : List ℕ) (s : ShapeEntry) (w : IsWholeShape IsNodeMap g.shapes id s) → HasEntry g id (shape_entry s)
      → IsLeft change id → IsGivenShape (shape_left change id s w.members)
  left_given id s w there left = record {
    id = safe.shapes id w.is_shape;
    names = form_left change id s.kind w.members
        (λ is k among. safe.whole id k s there (shape_entry s, there, inl is) left (subst (StandsAmong k) (sym w.ids) among))
        (λ is k among. safe.whole id k s there (shape_entry s, there, inr is) left (subst (StandsAmong k) (sym w.ids) among))
        w.form;
    members = members_given id w.members w.there;
    body = body_given id s there w.body;
    traits = map_left id (shape_entry s) there w.traits;
  }

  -- its entries come of the shape's
  abbrev pub ComesOf : List ℕ → Entry → Type 0
  ComesOf = Comes (IsLeft change) (id_after change) (entry_after change) g

  after_is : (id new : List ℕ) → change id ≡ Some new → id_after change id ≡ new
  after_is id new is = ap (λ o. unwrap_or o id) is

  ids_left : (id : List ℕ) → IsShapeId id → (ws : List MemberThere) → AreThere IsNodeMap g.shapes id ws
      → filter_map change (ids_there id ws) ≡ map (λ (m : MemberGiven). member_id (id_after change id) m.name) (members_left change id ws)
  ids_left id is [] there = refl
  ids_left id is (w ∷ ws) there =
      put (change (member_id id w.name)) refl
      ∙ ap (λ ids. cons_option (option_map (λ (new : List ℕ). member_id (id_after change id) w.name) (change (member_id id w.name))) ids)
      (ids_left id is ws there.1)
      ∙ listed (change (member_id id w.name))
    where
      rest : List (List ℕ)
      rest = filter_map change (ids_there id ws)

      put : (o : Option (List ℕ)) → change (member_id id w.name) ≡ o
          → cons_option o rest ≡ cons_option (option_map (λ (new : List ℕ). member_id (id_after change id) w.name) o) rest
      put None is_none = refl
      put (Some new) is_new = ap (λ k. k ∷ rest) (safe.members id w.name new is there.0.name is_new)

      listed : (o : Option (List ℕ))
          → cons_option (option_map (λ (new : List ℕ). member_id (id_after change id) w.name) o)
          (map (λ (m : MemberGiven). member_id (id_after change id) m.name) (members_left change id ws))
          ≡ map (λ (m : MemberGiven). member_id (id_after change id) m.name) (cons_option (option_map (Made change id w) o)
          (members_left change id ws))
      listed None = refl
      listed (Some new) = refl

  members_come : (id : List ℕ) → IsShapeId id → (ws : List MemberThere) → AreThere IsNodeMap g.shapes id ws
      → Each ComesOf (given_members (id_after change id) (members_left change id ws))
  members_come id is [] there = tt
  members_come id is (w ∷ ws) there = put (change (member_id id w.name)) refl (members_come id is ws there.1)
    where
      put : (o : Option (List ℕ)) → change (member_id id w.name) ≡ o
          → Each ComesOf (given_members (id_after change id) (members_left change id ws))
          → Each ComesOf (given_members (id_after change id) (cons_option (option_map (Made change id w) o) (members_left change id ws)))
      put None is_none rest = rest
      put (Some new) is_new rest = (
        (
          member_id id w.name,
          member_entry w.entry,
          there.0.found,
          ap is_some is_new,
          sym (after_is (member_id id w.name) new is_new ∙ safe.members id w.name new is there.0.name is_new),
          refl,
        ),
        rest,
      )

  pub left_comes : (id : List ℕ) (s : ShapeEntry) (w : IsWholeShape IsNodeMap g.shapes id s) → HasEntry g id (shape_entry s)
      → IsLeft change id → Each ComesOf (given_shape (shape_left change id s w.members))
  left_comes id s w there left = (
    (
      id,
      shape_entry s,
      there,
      left,
      refl,
      (λ i. shape_entry (record {
        kind = s.kind;
        members = sym (ap (filter_map change) w.ids ∙ ids_left id w.is_shape w.members w.there) i;
        properties = body_after change s.kind s.properties;
        traits = fin.from_entries (filter_map (trait_after change) (fin.entries s.traits));
      })),
    ),
    members_come id w.is_shape w.members w.there,
  )

  -- each member that is left is given
  pub member_stands_left : (id : List ℕ) → IsShapeId id → (ws : List MemberThere) → AreThere IsNodeMap g.shapes id ws → (k : List ℕ)
      → StandsAmong k (ids_there id ws) → IsLeft change k
      → StandsAmong (id_after change k) (keys (given_members (id_after change id) (members_left change id ws)))
  member_stands_left id is [] there k among left = absurd among
  member_stands_left id is (w ∷ ws) there k (inl same) left =
      put (change (member_id id w.name)) refl (subst (IsLeft change) same left)
    where
      put : (o : Option (List ℕ)) → change (member_id id w.name) ≡ o → is_some (change (member_id id w.name)) ≡ true
          → StandsAmong (id_after change k)
          (keys (given_members (id_after change id) (cons_option (option_map (Made change id w) o) (members_left change id ws))))
      put None is_none some = absurd (apart (sym (ap is_some is_none) ∙ some))
      put (Some new) is_new some =
          inl (ap (id_after change) same ∙ after_is (member_id id w.name) new is_new ∙ safe.members id w.name new is there.0.name is_new)
  member_stands_left id is (w ∷ ws) there k (inr later) left =
      put (change (member_id id w.name)) (member_stands_left id is ws there.1 k later left)
    where
      put : (o : Option (List ℕ))
          → StandsAmong (id_after change k) (keys (given_members (id_after change id) (members_left change id ws)))
          → StandsAmong (id_after change k)
          (keys (given_members (id_after change id) (cons_option (option_map (Made change id w) o) (members_left change id ws))))
      put None h = h
      put (Some new) h = inr h
