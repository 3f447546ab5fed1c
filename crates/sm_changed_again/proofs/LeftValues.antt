-- What is left of the value of a field, where ids become others or are gone, is of the field's form, and a node.
use Rattle.std.proofs.Common.{◌≡◌, inl, inr, ℕ, Bool, true, false, Option, Some, None, List, refl, sym, ap, subst, ◌∙◌, IsUtf8}
use Rattle.std.specs.Option.{option_map, unwrap_or}
use Rattle.std.proofs.lemmas.Option.{none-some, same_Some}
use Rattle.std.proofs.lemmas.Str.{IsUtf8-from_ascii}
use Rattle.sm_ids.specs.IdText.{IsIdText}
use Rattle.sm_ids.proofs.Parting.{id_ascii}
use Rattle.sm_tree.specs.Json.{AreJson, AreJsonMembers}
use Rattle.sm_tree.specs.Node.{Node, Nodes, Members, text, list, object, no_nodes, node, no_members, member}
use Rattle.sm_tree.specs.Parts.{entries_in, pairs_in}
use Rattle.sm_tree.specs.Same.{AreDistinct, HasName, HaveDistinctNames, IsNode}
use Rattle.sm_model.specs.Given.{AreIdNodes, AreNamedIds, AreRenamed, IsIdNode, NodeHasForm}
use Rattle.sm_model.specs.declared.property.PropertyForm.{PropertyForm}
use Rattle.sm_model.specs.declared.property.PropertyForm.TheVariants.{Reference, References, NamedReferences, Text, Rename}
use Rattle.sm_transform.specs.IdChanges.{IdChange, entries_after, field_after, keys_after, list_left, listed_after, named_after}
use Rattle.sm_transform.specs.IdChanges.{object_left}
use Rattle.sm_transform.specs.IdChanges.{put_entry, put_pair, put_under, reference_after, renames_after, value_after, values_after}

-- a list or an object that is left is what is left of it
list_is : (ns ms : Nodes) (n : Node) → list_left ns ms ≡ Some n → n ≡ list ms
list_is no_nodes ms n is = sym (same_Some (list ms) n is)
list_is (node x ns) no_nodes n is = absurd (none-some n is)
list_is (node x ns) (node y ms) n is = sym (same_Some (list (node y ms)) n is)

object_is : (ns ms : Members) (n : Node) → object_left ns ms ≡ Some n → n ≡ object ms
object_is no_members ms n is = sym (same_Some (object ms) n is)
object_is (member k x ns) no_members n is = absurd (none-some n is)
object_is (member k x ns) (member j y ms) n is = sym (same_Some (object (member j y ms)) n is)

-- ids are nodes
id_node : (t : List ℕ) → IsIdText t → IsNode (text t)
id_node t (id, is) = (IsUtf8-from_ascii t (id_ascii id t is), tt)

id_nodes : (n : Node) → IsIdNode n → IsNode n
id_nodes n h = subst IsNode (sym h.1) (id_node h.0 h.2)

all_nodes : (ns : Nodes) → AreIdNodes ns → AreJson ns × HaveDistinctNames ns
all_nodes no_nodes h = (tt, tt)
all_nodes (node n ns) h =
    let here = id_nodes n h.0 in
    let rest = all_nodes ns h.1 in
    ((here.0, rest.0), (here.1, rest.1))

module _ (change : IdChange) (ids : (id new : List ℕ) → IsIdText id → change id ≡ Some new → IsIdText new) where
  text_left : (t : List ℕ) (n : Node) (o : Option (List ℕ)) → change t ≡ o → IsIdText t → option_map text o ≡ Some n → IsIdNode n
  text_left t n None is id found = absurd (none-some n found)
  text_left t n (Some u) is id found = (u, sym (same_Some (text u) n found), ids t u id is)

  reference_left : (n m : Node) → IsIdNode n → reference_after change n ≡ Some m → IsIdNode m
  reference_left n m h found =
      text_left h.0 m (change h.0) refl h.2 (sym (ap (reference_after change) h.1) ∙ found)

  put_left : (o : Option Node) (ns : Nodes) → ((m : Node) → o ≡ Some m → IsIdNode m) → AreIdNodes ns → AreIdNodes (put_entry o ns)
  put_left None ns here rest = rest
  put_left (Some m) ns here rest = (here m refl, rest)

  entries_left : (ns : Nodes) → AreIdNodes ns → AreIdNodes (entries_after change ns)
  entries_left no_nodes h = tt
  entries_left (node n ns) h =
      put_left (reference_after change n) (entries_after change ns) (λ m found. reference_left n m h.0 found) (entries_left ns h.1)

  -- references under names
  record IsPairsLeft (ms : Members) (left : Members) : Type 0 where
    are : AreNamedIds left
    json : AreJsonMembers left
    distinct : AreDistinct left
    inside : (k : List ℕ) → HasName k left → HasName k ms

  put_value : (k : List ℕ) (n : Node) (o : Option Node) (ms left : Members) → ((m : Node) → o ≡ Some m → IsIdNode m) → IsUtf8 k
      → (HasName k ms → ⊥) → IsPairsLeft ms left → IsPairsLeft (member k n ms) (put_pair k o left)
  put_value k n None ms left here utf8 new rest = record {
    are = rest.are;
    json = rest.json;
    distinct = rest.distinct;
    inside = λ j h. inr (rest.inside j h);
  }
  put_value k n (Some m) ms left here utf8 new rest =
      let id = here m refl in
      let is = id_nodes m id in record {
        are = (id, rest.are);
        json = (utf8, is.0, rest.json);
        distinct = ((λ h. new (rest.inside k h)), is.1, rest.distinct);
        inside = λ j h. elim h [ inl same ↦ inl same | inr later ↦ inr (rest.inside j later) ];
      }

  values_left : (ms : Members) → AreNamedIds ms → AreJsonMembers ms → AreDistinct ms → IsPairsLeft ms (values_after change ms)
  values_left no_members h json distinct = record { are = tt; json = tt; distinct = tt; inside = λ j x. x }
  values_left (member k n ms) h json distinct =
      put_value k n (reference_after change n) ms (values_after change ms) (λ m found. reference_left n m h.0 found) json.0 distinct.0
      (values_left ms h.1 json.2 distinct.2)

  -- what stands under ids
  abbrev pub KeysApart : Members → Type 0
  KeysApart ms = (a b new : List ℕ) → HasName a ms → HasName b ms → change a ≡ Some new → change b ≡ Some new → a ≡ b

  record IsKeyedLeft (ms : Members) (left : Members) : Type 0 where
    are : AreRenamed left
    json : AreJsonMembers left
    distinct : AreDistinct left
    comes : (k : List ℕ) → HasName k left → (j : List ℕ) × HasName j ms × (change j ≡ Some k)

  put_key : (k : List ℕ) (n : Node) (o : Option (List ℕ)) → change k ≡ o → (ms left : Members) → AreRenamed (member k n ms)
      → AreJsonMembers (member k n ms) → AreDistinct (member k n ms) → KeysApart (member k n ms) → IsKeyedLeft ms left
      → IsKeyedLeft (member k n ms) (put_under o n left)
  put_key k n None is ms left h json distinct apart rest = record {
    are = rest.are;
    json = rest.json;
    distinct = rest.distinct;
    comes = λ j x. let c = rest.comes j x in (c.0, inr c.1, c.2);
  }
  put_key k n (Some u) is ms left h json distinct apart rest =
      let id = ids k u h.0 is in record {
        are = (id, h.1, rest.are);
        json = ((id_node u id).0, json.1, rest.json);
        distinct = (
          λ x.
              let c = rest.comes u x in
              distinct.0 (subst (λ j. HasName j ms) (sym (apart k c.0 u (inl refl) (inr c.1) is c.2)) c.1),
          distinct.1,
          rest.distinct,
        );
        comes = λ j x. elim x [
          | inl same ↦ (k, inl refl, is ∙ ap (λ y. Some y) (sym same))
          | inr later ↦ let c = rest.comes j later in (c.0, inr c.1, c.2)
        ];
      }

  keys_left : (ms : Members) → AreRenamed ms → AreJsonMembers ms → AreDistinct ms → KeysApart ms → IsKeyedLeft ms (keys_after change ms)
  keys_left no_members h json distinct apart = record { are = tt; json = tt; distinct = tt; comes = λ j x. absurd x }
  keys_left (member k n ms) h json distinct apart =
      put_key k n (change k) refl ms (keys_after change ms) h json distinct apart
      (keys_left ms h.2 json.2 distinct.2 (λ a b new x y. apart a b new (inr x) (inr y)))

  -- a field, by its form
  abbrev pub RenamesApart : PropertyForm → Node → Type 0
  RenamesApart form n = form ≡ Rename → (rs : Members) → n ≡ object rs → KeysApart rs

  pub record IsFieldLeft (form : PropertyForm) (m : Node) : Type 0 where
    pub form_is : NodeHasForm form m
    pub is : IsNode m

  value_left : (form : PropertyForm) (n m : Node) → NodeHasForm form n → IsNode n → RenamesApart form n → value_after change form n ≡ Some m
      → IsFieldLeft form m
  value_left Reference n m h is apart found =
      let id = reference_left n m h found in record { form_is = id; is = id_nodes m id }
  value_left References n m (ns, same, all) is apart found =
      let left = entries_left ns all in
      let m_is = list_is ns (entries_after change ns) m (sym (ap (λ x. listed_after change x (entries_in x)) same) ∙ found) in record {
        form_is = (entries_after change ns, m_is, left);
        is = subst IsNode (sym m_is) (all_nodes (entries_after change ns) left);
      }
  value_left NamedReferences n m (ms, same, all) is apart found =
      let node_is : IsNode (object ms) = subst IsNode same is in
      let left = values_left ms all node_is.0 node_is.1 in
      let m_is = object_is ms (values_after change ms) m (sym (ap (λ x. named_after change x (pairs_in x)) same) ∙ found) in record {
        form_is = (values_after change ms, m_is, left.are);
        is = subst IsNode (sym m_is) (left.json, left.distinct);
      }
  value_left Text n m h is apart found =
      let same = same_Some n m found in record { form_is = subst (NodeHasForm Text) same h; is = subst IsNode same is }
  value_left Rename n m (ms, same, all) is apart found =
      let node_is : IsNode (object ms) = subst IsNode same is in
      let left = keys_left ms all node_is.0 node_is.1 (apart refl ms same) in
      let m_is = object_is ms (keys_after change ms) m (sym (ap (λ x. renames_after change x (pairs_in x)) same) ∙ found) in record {
        form_is = (keys_after change ms, m_is, left.are);
        is = subst IsNode (sym m_is) (left.json, left.distinct);
      }

  kept_or : (form : PropertyForm) (n m : Node) (o : Option Node) → value_after change form n ≡ o → NodeHasForm form n → IsNode n
      → RenamesApart form n → unwrap_or o n ≡ m → IsFieldLeft form m
  kept_or form n m None is h node_is apart same = record { form_is = subst (NodeHasForm form) same h; is = subst IsNode same node_is }
  kept_or form n m (Some x) is h node_is apart same = value_left form n m h node_is apart (is ∙ ap (λ y. Some y) same)

  pub field_left : (needed : Bool) (form : PropertyForm) (n m : Node) → NodeHasForm form n → IsNode n → RenamesApart form n
      → field_after change needed (Some form) n ≡ Some m → IsFieldLeft form m
  field_left true form n m h is apart found =
      kept_or form n m (value_after change form n) refl h is apart (same_Some (unwrap_or (value_after change form n) n) m found)
  field_left false form n m h is apart found = value_left form n m h is apart found
