-- What is left of bodies and of traits, where ids become others or are gone, is of the form that it had.
use Rattle.std.proofs.Common.{◌≡◌, inl, inr, ℕ, Bool, true, false, List, [], ◌∷◌, Option, Some, None, refl, sym, ap, subst, ◌∙◌, IsUtf8}
use Rattle.std.specs.Prelude.{codes}
use Rattle.std.specs.List.{cons_option, filter_map}
use Rattle.std.specs.Option.{option_map, unwrap_or}
use Rattle.std.proofs.lemmas.Option.{none-some, same_Some}
use Rattle.std.proofs.lemmas.Str.{IsUtf8-from_ascii}
use Rattle.sm_ids.specs.IdText.{IsIdText}
use Rattle.sm_ids.proofs.Parting.{id_ascii}
use Rattle.sm_tree.specs.Json.{AreJson, AreJsonMembers}
use Rattle.sm_tree.specs.Node.{Node, Nodes, Members, text, list, object, no_nodes, node, no_members, member}
use Rattle.sm_tree.specs.Parts.{entries_in, pairs_in}
use Rattle.sm_tree.specs.Same.{AreDistinct, HasName, HasPair, HaveDistinctNames, IsNode}
use Rattle.sm_model.specs.Formed.{StandsAmong}
use Rattle.sm_model.specs.Given.{AreIdNodes, AreNamedIds, AreNodeFields, AreRenamed, HasNeeded, HasShapeBody, IsIdNode, IsNodeMap}
use Rattle.sm_model.specs.Given.{NodeHasForm, are_under}
use Rattle.sm_model.specs.Properties.{TypeFields, form_named, property_forms}
use Rattle.sm_model.specs.declared.kind.Kind.{Kind}
use Rattle.sm_model.specs.declared.kind.Kind.TheVariants.{Blob, Boolean, Text as text_kind, Enum, Byte, Short, Integer, IntEnum, Long}
use Rattle.sm_model.specs.declared.kind.Kind.TheVariants.{Float, Double}
use Rattle.sm_model.specs.declared.kind.Kind.TheVariants.{BigInteger, BigDecimal, Timestamp, Document, List as list_kind, Map, Structure}
use Rattle.sm_model.specs.declared.kind.Kind.TheVariants.{Union}
use Rattle.sm_model.specs.declared.kind.Kind.TheVariants.{Service, Operation, Resource}
use Rattle.sm_model.specs.declared.property.PropertyForm.{PropertyForm}
use Rattle.sm_model.specs.declared.property.PropertyForm.TheVariants.{Reference, References, NamedReferences, Text, Rename}
use Rattle.sm_model.proofs.Worklist.{apart}
use Rattle.sm_transform.specs.IdChanges.{IdChange, body_after, entries_after, field_after, fields_after, is_needed, keys_after, list_left}
use Rattle.sm_transform.specs.IdChanges.{listed_after, named_after, object_left, put_entry, put_pair, put_under, reference_after}
use Rattle.sm_transform.specs.IdChanges.{renames_after, trait_after, value_after, values_after}

-- a list or an object that is left is what is left of it
list_is : (ns ms : Nodes) (n : Node) → list_left ns ms ≡ Some n → n ≡ list ms
list_is no_nodes ms n is = sym (same_Some (list ms) n is)
list_is (node x ns) no_nodes n is = absurd (none-some n is)
list_is (node x ns) (node y ms) n is = sym (same_Some (list (node y ms)) n is)

object_is : (ns ms : Members) (n : Node) → object_left ns ms ≡ Some n → n ≡ object ms
object_is no_members ms n is = sym (same_Some (object ms) n is)
object_is (member k x ns) no_members n is = absurd (none-some n is)
object_is (member k x ns) (member j y ms) n is = sym (same_Some (object (member j y ms)) n is)

-- ids are nodes
id_node : (t : List ℕ) → IsIdText t → IsNode (text t)
id_node t (id, is) = (IsUtf8-from_ascii t (id_ascii id t is), tt)

id_nodes : (n : Node) → IsIdNode n → IsNode n
id_nodes n h = subst IsNode (sym h.1) (id_node h.0 h.2)

all_nodes : (ns : Nodes) → AreIdNodes ns → AreJson ns × HaveDistinctNames ns
all_nodes no_nodes h = (tt, tt)
all_nodes (node n ns) h =
    let here = id_nodes n h.0 in
    let rest = all_nodes ns h.1 in
    ((here.0, rest.0), (here.1, rest.1))

module _ (change : IdChange) (ids : (id new : List ℕ) → IsIdText id → change id ≡ Some new → IsIdText new) where
  text_left : (t : List ℕ) (n : Node) (o : Option (List ℕ)) → change t ≡ o → IsIdText t → option_map text o ≡ Some n → IsIdNode n
  text_left t n None is id found = absurd (none-some n found)
  text_left t n (Some u) is id found = (u, sym (same_Some (text u) n found), ids t u id is)

  reference_left : (n m : Node) → IsIdNode n → reference_after change n ≡ Some m → IsIdNode m
  reference_left n m h found =
      text_left h.0 m (change h.0) refl h.2 (sym (ap (reference_after change) h.1) ∙ found)

  put_left : (o : Option Node) (ns : Nodes) → ((m : Node) → o ≡ Some m → IsIdNode m) → AreIdNodes ns → AreIdNodes (put_entry o ns)
  put_left None ns here rest = rest
  put_left (Some m) ns here rest = (here m refl, rest)

  entries_left : (ns : Nodes) → AreIdNodes ns → AreIdNodes (entries_after change ns)
  entries_left no_nodes h = tt
  entries_left (node n ns) h =
      put_left (reference_after change n) (entries_after change ns) (λ m found. reference_left n m h.0 found) (entries_left ns h.1)

  -- references under names
  record IsPairsLeft (ms : Members) (left : Members) : Type 0 where
    are : AreNamedIds left
    json : AreJsonMembers left
    distinct : AreDistinct left
    inside : (k : List ℕ) → HasName k left → HasName k ms

  put_value : (k : List ℕ) (n : Node) (o : Option Node) (ms left : Members) → ((m : Node) → o ≡ Some m → IsIdNode m) → IsUtf8 k
      → (HasName k ms → ⊥) → IsPairsLeft ms left → IsPairsLeft (member k n ms) (put_pair k o left)
  put_value k n None ms left here utf8 new rest = record {
    are = rest.are;
    json = rest.json;
    distinct = rest.distinct;
    inside = λ j h. inr (rest.inside j h);
  }
  put_value k n (Some m) ms left here utf8 new rest =
      let id = here m refl in
      let is = id_nodes m id in record {
        are = (id, rest.are);
        json = (utf8, is.0, rest.json);
        distinct = ((λ h. new (rest.inside k h)), is.1, rest.distinct);
        inside = λ j h. elim h [ inl same ↦ inl same | inr later ↦ inr (rest.inside j later) ];
      }

  values_left : (ms : Members) → AreNamedIds ms → AreJsonMembers ms → AreDistinct ms → IsPairsLeft ms (values_after change ms)
  values_left no_members h json distinct = record { are = tt; json = tt; distinct = tt; inside = λ j x. x }
  values_left (member k n ms) h json distinct =
      put_value k n (reference_after change n) ms (values_after change ms) (λ m found. reference_left n m h.0 found) json.0 distinct.0
      (values_left ms h.1 json.2 distinct.2)

  -- what stands under ids
  abbrev KeysApart : Members → Type 0
  KeysApart ms = (a b new : List ℕ) → HasName a ms → HasName b ms → change a ≡ Some new → change b ≡ Some new → a ≡ b

  record IsKeyedLeft (ms : Members) (left : Members) : Type 0 where
    are : AreRenamed left
    json : AreJsonMembers left
    distinct : AreDistinct left
    comes : (k : List ℕ) → HasName k left → (j : List ℕ) × HasName j ms × (change j ≡ Some k)

  put_key : (k : List ℕ) (n : Node) (o : Option (List ℕ)) → change k ≡ o → (ms left : Members) → AreRenamed (member k n ms)
      → AreJsonMembers (member k n ms) → AreDistinct (member k n ms) → KeysApart (member k n ms) → IsKeyedLeft ms left
      → IsKeyedLeft (member k n ms) (put_under o n left)
  put_key k n None is ms left h json distinct apart rest = record {
    are = rest.are;
    json = rest.json;
    distinct = rest.distinct;
    comes = λ j x. let c = rest.comes j x in (c.0, inr c.1, c.2);
  }
  put_key k n (Some u) is ms left h json distinct apart rest =
      let id = ids k u h.0 is in record {
        are = (id, h.1, rest.are);
        json = ((id_node u id).0, json.1, rest.json);
        distinct = (
          λ x.
              let c = rest.comes u x in
              distinct.0 (subst (λ j. HasName j ms) (sym (apart k c.0 u (inl refl) (inr c.1) is c.2)) c.1),
          distinct.1,
          rest.distinct,
        );
        comes = λ j x. elim x [
          | inl same ↦ (k, inl refl, is ∙ ap (λ y. Some y) (sym same))
          | inr later ↦ let c = rest.comes j later in (c.0, inr c.1, c.2)
        ];
      }

  keys_left : (ms : Members) → AreRenamed ms → AreJsonMembers ms → AreDistinct ms → KeysApart ms → IsKeyedLeft ms (keys_after change ms)
  keys_left no_members h json distinct apart = record { are = tt; json = tt; distinct = tt; comes = λ j x. absurd x }
  keys_left (member k n ms) h json distinct apart =
      put_key k n (change k) refl ms (keys_after change ms) h json distinct apart
      (keys_left ms h.2 json.2 distinct.2 (λ a b new x y. apart a b new (inr x) (inr y)))

  -- a field, by its form
  abbrev RenamesApart : PropertyForm → Node → Type 0
  RenamesApart form n = form ≡ Rename → (rs : Members) → n ≡ object rs → KeysApart rs

  record IsFieldLeft (form : PropertyForm) (m : Node) : Type 0 where
    form_is : NodeHasForm form m
    is : IsNode m

  value_left : (form : PropertyForm) (n m : Node) → NodeHasForm form n → IsNode n → RenamesApart form n → value_after change form n ≡ Some m
      → IsFieldLeft form m
  value_left Reference n m h is apart found =
      let id = reference_left n m h found in record { form_is = id; is = id_nodes m id }
  value_left References n m (ns, same, all) is apart found =
      let left = entries_left ns all in
      let m_is = list_is ns (entries_after change ns) m (sym (ap (λ x. listed_after change x (entries_in x)) same) ∙ found) in record {
        form_is = (entries_after change ns, m_is, left);
        is = subst IsNode (sym m_is) (all_nodes (entries_after change ns) left);
      }
  value_left NamedReferences n m (ms, same, all) is apart found =
      let node_is : IsNode (object ms) = subst IsNode same is in
      let left = values_left ms all node_is.0 node_is.1 in
      let m_is = object_is ms (values_after change ms) m (sym (ap (λ x. named_after change x (pairs_in x)) same) ∙ found) in record {
        form_is = (values_after change ms, m_is, left.are);
        is = subst IsNode (sym m_is) (left.json, left.distinct);
      }
  value_left Text n m h is apart found =
      let same = same_Some n m found in record { form_is = subst (NodeHasForm Text) same h; is = subst IsNode same is }
  value_left Rename n m (ms, same, all) is apart found =
      let node_is : IsNode (object ms) = subst IsNode same is in
      let left = keys_left ms all node_is.0 node_is.1 (apart refl ms same) in
      let m_is = object_is ms (keys_after change ms) m (sym (ap (λ x. renames_after change x (pairs_in x)) same) ∙ found) in record {
        form_is = (keys_after change ms, m_is, left.are);
        is = subst IsNode (sym m_is) (left.json, left.distinct);
      }

  kept_or : (form : PropertyForm) (n m : Node) (o : Option Node) → value_after change form n ≡ o → NodeHasForm form n → IsNode n
      → RenamesApart form n → unwrap_or o n ≡ m → IsFieldLeft form m
  kept_or form n m None is h node_is apart same = record { form_is = subst (NodeHasForm form) same h; is = subst IsNode same node_is }
  kept_or form n m (Some x) is h node_is apart same = value_left form n m h node_is apart (is ∙ ap (λ y. Some y) same)

  field_left : (needed : Bool) (form : PropertyForm) (n m : Node) → NodeHasForm form n → IsNode n → RenamesApart form n
      → field_after change needed (Some form) n ≡ Some m → IsFieldLeft form m
  field_left true form n m h is apart found =
      kept_or form n m (value_after change form n) refl h is apart (same_Some (unwrap_or (value_after change form n) n) m found)
  field_left false form n m h is apart found = value_left form n m h is apart found

  -- the fields of a body
  module _ (kind : Kind) where
    abbrev fs : TypeFields
    fs = property_forms kind

    abbrev AllApart : Members → Type 0
    AllApart ms = (k : List ℕ) (rs : Members) → HasPair k (object rs) ms → form_named k fs ≡ Some Rename → KeysApart rs

    record AreLeft (ms : Members) (left : Members) : Type 0 where
      fields : AreNodeFields fs left
      json : AreJsonMembers left
      distinct : AreDistinct left
      inside : (k : List ℕ) → HasName k left → HasName k ms

    put_field : (k : List ℕ) (n : Node) (form : PropertyForm) → form_named k fs ≡ Some form → (o : Option Node)
        → ((m : Node) → o ≡ Some m → IsFieldLeft form m) → IsUtf8 k → (ms left : Members) → (HasName k ms → ⊥) → AreLeft ms left
        → AreLeft (member k n ms) (put_pair k o left)
    put_field k n form named None here utf8 ms left new rest = record {
      fields = rest.fields;
      json = rest.json;
      distinct = rest.distinct;
      inside = λ j h. inr (rest.inside j h);
    }
    put_field k n form named (Some m) here utf8 ms left new rest =
        let f = here m refl in record {
          fields = ((form, named, f.form_is), rest.fields);
          json = (utf8, f.is.0, rest.json);
          distinct = ((λ h. new (rest.inside k h)), f.is.1, rest.distinct);
          inside = λ j h. elim h [ inl same ↦ inl same | inr later ↦ inr (rest.inside j later) ];
        }

    form_of : (k : List ℕ) (n m : Node) (o : Option PropertyForm) (form : PropertyForm) → o ≡ Some form
        → field_after change (is_needed kind k) o n ≡ Some m → field_after change (is_needed kind k) (Some form) n ≡ Some m
    form_of k n m o form same found = subst (λ x. field_after change (is_needed kind k) x n ≡ Some m) same found

    fields_left : (ms : Members) → AreNodeFields fs ms → AreJsonMembers ms → AreDistinct ms → AllApart ms
        → AreLeft ms (fields_after change kind ms)
    fields_left no_members h json distinct apart = record { fields = tt; json = tt; distinct = tt; inside = λ j x. x }
    fields_left (member k n ms) h json distinct apart =
        let form = h.0.0 in
        let named = h.0.1 in
        let renames : RenamesApart form n =
        λ is rs same. apart k rs (inl (refl, sym same)) (named ∙ ap (λ y. Some y) is) in
        put_field k n form named (field_after change (is_needed kind k) (form_named k fs) n)
        (λ m found. field_left (is_needed kind k) form n m h.0.2 (json.1, distinct.1) renames
        (form_of k n m (form_named k fs) form named found))
        json.0 ms (fields_after change kind ms) distinct.0
        (fields_left ms h.1 json.2 distinct.2 (λ j rs pair. apart j rs (inr pair)))

    -- those that the type needs stay
    needed_is : (b : Bool) (o : Option PropertyForm) (n : Node) → b ≡ true → (m : Node) × (field_after change b o n ≡ Some m)
    needed_is b None n is = (n, refl)
    needed_is true (Some form) n is = (unwrap_or (value_after change form n) n, refl)
    needed_is false (Some form) n is = absurd (apart is)

    tail_name : (k l : List ℕ) (o : Option Node) (left : Members) → HasName k left → HasName k (put_pair l o left)
    tail_name k l None left h = h
    tail_name k l (Some m) left h = inr h

    head_name : (k l : List ℕ) (o : Option Node) (m : Node) (left : Members) → o ≡ Some m → k ≡ l → HasName k (put_pair l o left)
    head_name k l o m left is same = subst (λ x. HasName k (put_pair l x left)) (sym is) (inl same)

    name_left : (k : List ℕ) (ms : Members) → is_needed kind k ≡ true → HasName k ms → HasName k (fields_after change kind ms)
    name_left k no_members needed h = h
    name_left k (member l n ms) needed (inl same) =
        let s = needed_is (is_needed kind l) (form_named l fs) n (subst (λ x. is_needed kind x ≡ true) same needed) in
        head_name k l _ s.0 (fields_after change kind ms) s.1 same
    name_left k (member l n ms) needed (inr h) = tail_name k l _ (fields_after change kind ms) (name_left k ms needed h)

  needed_left : (kind : Kind) (ms : Members) → HasNeeded kind ms → HasNeeded kind (fields_after change kind ms)
  needed_left Operation ms h = (name_left Operation (codes "input") ms refl h.0, name_left Operation (codes "output") ms refl h.1)
  needed_left Service ms h = tt
  needed_left Resource ms h = tt
  needed_left list_kind ms h = tt
  needed_left Map ms h = tt
  needed_left Structure ms h = tt
  needed_left Union ms h = tt
  needed_left Enum ms h = tt
  needed_left IntEnum ms h = tt
  needed_left Blob ms h = tt
  needed_left Boolean ms h = tt
  needed_left text_kind ms h = tt
  needed_left Byte ms h = tt
  needed_left Short ms h = tt
  needed_left Integer ms h = tt
  needed_left Long ms h = tt
  needed_left Float ms h = tt
  needed_left Double ms h = tt
  needed_left BigInteger ms h = tt
  needed_left BigDecimal ms h = tt
  needed_left Timestamp ms h = tt
  needed_left Document ms h = tt

  pub body_left : (kind : Kind) (n : Node) (h : HasShapeBody kind n)
      → ((k : List ℕ) (rs : Members) → HasPair k (object rs) h.pairs → form_named k (property_forms kind) ≡ Some Rename
      → (a b new : List ℕ) → HasName a rs → HasName b rs → change a ≡ Some new → change b ≡ Some new → a ≡ b)
      → HasShapeBody kind (body_after change kind n)
  body_left kind n h apart =
      let is : IsNode (object h.pairs) = subst IsNode h.is_object h.is_node in
      let left = fields_left kind h.pairs h.fields is.0 is.1 apart in
      let same : body_after change kind n ≡ object (fields_after change kind h.pairs) = ap (body_after change kind) h.is_object in record {
        pairs = fields_after change kind h.pairs;
        is_object = same;
        is_node = subst IsNode (sym same) (left.json, left.distinct);
        fields = left.fields;
        needed = needed_left kind h.pairs h.needed;
      }

-- traits under ids
module _ (change : IdChange) where
  record AreTraitsLeft (ps left : List (List ℕ × Node)) : Type 0 where
    map_is : IsNodeMap left
    comes : (k : List ℕ) → StandsAmong k (are_under left) → (j : List ℕ) × StandsAmong j (are_under ps) × (change j ≡ Some k)

  put_trait : (p : List ℕ × Node) (ps left : List (List ℕ × Node)) (o : Option (List ℕ)) → change p.0 ≡ o → IsNode p.1
      → (StandsAmong p.0 (are_under ps) → ⊥)
      → ((a b new : List ℕ) → StandsAmong a (are_under (p ∷ ps)) → StandsAmong b (are_under (p ∷ ps)) → change a ≡ Some new
      → change b ≡ Some new → a ≡ b)
      → AreTraitsLeft ps left → AreTraitsLeft (p ∷ ps) (cons_option (option_map (λ id. (id, p.1)) o) left)
  put_trait p ps left None is node_is new apart rest = record {
    map_is = rest.map_is;
    comes = λ k h. let c = rest.comes k h in (c.0, inr c.1, c.2);
  }
  put_trait p ps left (Some u) is node_is new apart rest = record {
    map_is = record {
      differ = (
        λ h.
            let c = rest.comes u h in
            new (subst (λ j. StandsAmong j (are_under ps)) (sym (apart p.0 c.0 u (inl refl) (inr c.1) is c.2)) c.1),
        rest.map_is.differ,
      );
      nodes = (node_is, rest.map_is.nodes);
    };
    comes = λ k h. elim h [
      | inl same ↦ (p.0, inl refl, is ∙ ap (λ y. Some y) (sym same))
      | inr later ↦ let c = rest.comes k later in (c.0, inr c.1, c.2)
    ];
  }

  all_traits : (ps : List (List ℕ × Node)) → IsNodeMap ps
      → ((a b new : List ℕ) → StandsAmong a (are_under ps) → StandsAmong b (are_under ps) → change a ≡ Some new → change b ≡ Some new
      → a ≡ b)
      → AreTraitsLeft ps (filter_map (trait_after change) ps)
  all_traits [] h apart = record { map_is = h; comes = λ k x. absurd x }
  all_traits (p ∷ ps) h apart =
      put_trait p ps (filter_map (trait_after change) ps) (change p.0) refl h.nodes.0 h.differ.0 apart
      (all_traits ps (record { differ = h.differ.1; nodes = h.nodes.1 }) (λ a b new x y. apart a b new (inr x) (inr y)))

  pub traits_left : (ps : List (List ℕ × Node)) → IsNodeMap ps
      → ((a b new : List ℕ) → StandsAmong a (are_under ps) → StandsAmong b (are_under ps) → change a ≡ Some new → change b ≡ Some new
      → a ≡ b)
      → IsNodeMap (filter_map (trait_after change) ps)
  traits_left ps h apart = (all_traits ps h apart).map_is
