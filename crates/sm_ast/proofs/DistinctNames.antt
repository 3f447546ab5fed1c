-- Where nothing is refused, no name stands twice in any object of the tree.
use Rattle.std.proofs.Common.{◌≡◌, ℕ, ◌+◌, inl, inr, List, [], ◌∷◌, ◌++◌, Option, Some, None, refl, sym, ap, subst, ◌∙◌, bytes_eq}
use Rattle.sm_ids.specs.Identifier.{is_identifier}
use Rattle.sm_tree.specs.Node.{Node, Nodes, Members, null, bool, int, number, text, bytes, tag, opaque, list, object, no_nodes, node}
use Rattle.sm_tree.specs.Node.{no_members, member}
use Rattle.sm_tree.specs.Same.{HasPair, HasDistinctNames, HaveDistinctNames, AreDistinct}
use Rattle.sm_tree.specs.Json.{IsJson, AreJson, AreJsonMembers}
use Rattle.sm_tree.specs.declared.path.Step.TheVariants.{Index}
use Rattle.sm_model.specs.declared.property.PropertyForm.{PropertyForm}
use Rattle.sm_model.specs.declared.property.PropertyForm.TheVariants.{Reference, References, NamedReferences, Text, Rename}
use Rattle.sm_ast.specs.declared.layout.ShapeType.{ShapeType}
use Rattle.sm_ast.specs.declared.layout.FieldForm.{FieldForm}
use Rattle.sm_ast.specs.declared.layout.FieldForm.TheVariants.{TypeName, OneMember, AllMembers, Property, Mixins, Traits}
use Rattle.sm_ast.specs.Ids.{is_id}
use Rattle.sm_ast.specs.Layout.{field_named, layout_of, target_name, traits_name, type_name}
use Rattle.sm_ast.specs.Faults.{AstFault, field, bad_id, unless, earlier_of, seen_from, of_object, pair_fault, pairs_fault, entries_fault}
use Rattle.sm_ast.specs.Faults.{object_fault, node_fault, nodes_fault, members_fault, identifier_fault, target_fault, reference_fault}
use Rattle.sm_ast.specs.Faults.{references_fault, new_name_fault, trait_fault, traits_fault, part_of_member_fault, member_fault}
use Rattle.sm_tree.specs.Parts.{tree_named}
use Rattle.sm_ast.specs.Faults.{named_member_fault, property_fault, form_fault, typed_fault}
use Rattle.sm_ast.proofs.Judged.{either_way, same_text, one_value, some_is_none, none_first, none_inside, none_either, none_at_pair}
use Rattle.sm_ast.proofs.Judged.{none_of_pairs, none_of_entries, not_before, stands_last}
use Rattle.sm_ast.proofs.SaidFields.{only_type}
use Rattle.sm_ast.proofs.SaidReferences.{by_text, by_list, by_object, identifier_said, target_pair}

members_as_pairs : (before : List (List ℕ)) (ms : Members) → members_fault before ms ≡ pairs_fault (λ k n. node_fault n) before ms
members_as_pairs before no_members = refl
members_as_pairs before (member k n ms) = ap (λ o. earlier_of (pair_fault before k (node_fault n)) o)
    (members_as_pairs (before ++ k ∷ []) ms)

-- nodes
mutual
  pub node_distinct : (n : Node) → IsJson n → node_fault n ≡ None → HasDistinctNames n
  node_distinct null json e = tt
  node_distinct (bool b) json e = tt
  node_distinct (int z) json e = tt
  node_distinct (number t) json e = tt
  node_distinct (text t) json e = tt
  node_distinct (bytes t) json e = tt
  node_distinct (tag k n) json e = absurd json
  node_distinct (opaque b) json e = tt
  node_distinct (list ns) json e = nodes_distinct 0 ns json e
  node_distinct (object ms) json e = members_distinct [] ms json e

  nodes_distinct : (at : ℕ) (ns : Nodes) → AreJson ns → nodes_fault at ns ≡ None → HaveDistinctNames ns
  nodes_distinct at no_nodes json e = tt
  nodes_distinct at (node n ns) json e =
      let parts = none_first (seen_from (Index at) (node_fault n)) (nodes_fault (at + 1) ns) e in
      (node_distinct n json.0 (none_inside (Index at) (node_fault n) parts.0), nodes_distinct (at + 1) ns json.1 parts.1)

  pub members_distinct : (before : List (List ℕ)) (ms : Members) → AreJsonMembers ms → members_fault before ms ≡ None → AreDistinct ms
  members_distinct before no_members json e = tt
  members_distinct before (member k n ms) json e =
      let parts = none_first (pair_fault before k (node_fault n)) (members_fault (before ++ k ∷ []) ms) e in (
        not_before (λ j m. node_fault m) (before ++ k ∷ []) ms (sym (members_as_pairs (before ++ k ∷ []) ms) ∙ parts.1) k
            (stands_last k before),
        node_distinct n json.1 (none_at_pair before k (node_fault n) parts.0).1,
        members_distinct (before ++ k ∷ []) ms json.2 parts.1,
      )

-- pairs of a whole object, where what a judge lets pass is such a tree
pairs_distinct_in : (whole : Members) (judge : List ℕ → Node → Option AstFault)
    → ((k : List ℕ) (n : Node) → HasPair k n whole → IsJson n → judge k n ≡ None → HasDistinctNames n)
    → (before : List (List ℕ)) (ms : Members) → ((k : List ℕ) (n : Node) → HasPair k n ms → HasPair k n whole)
    → AreJsonMembers ms → pairs_fault judge before ms ≡ None → AreDistinct ms
pairs_distinct_in whole judge each before no_members inside json e = tt
pairs_distinct_in whole judge each before (member k n ms) inside json e =
    let parts = none_of_pairs judge before k n ms e in (
      not_before judge (before ++ k ∷ []) ms parts.2 k (stands_last k before),
      each k n (inside k n (inl (refl, refl))) json.1 parts.1,
      pairs_distinct_in whole judge each (before ++ k ∷ []) ms (λ j m has. inside j m (inr has)) json.2 parts.2,
    )

pairs_distinct : (judge : List ℕ → Node → Option AstFault) → ((k : List ℕ) (n : Node) → IsJson n → judge k n ≡ None → HasDistinctNames n)
    → (ms : Members) → AreJsonMembers ms → pairs_fault judge [] ms ≡ None → AreDistinct ms
pairs_distinct judge each ms json e = pairs_distinct_in ms judge (λ k n has. each k n) [] ms (λ k n has. has) json e

pub of_pairs_distinct : (judge : List ℕ → Node → Option AstFault)
    → ((k : List ℕ) (n : Node) → IsJson n → judge k n ≡ None → HasDistinctNames n)
    → (n : Node) → IsJson n → of_object (pairs_fault judge []) n ≡ None → HasDistinctNames n
of_pairs_distinct judge each n json e = by_object (λ m. IsJson m → HasDistinctNames m) (pairs_fault judge []) n e
    (λ ms f j. pairs_distinct judge each ms j f) json

pub of_object_distinct : (judge : List ℕ → Node → Option AstFault)
    → ((k : List ℕ) (n : Node) → IsJson n → judge k n ≡ None → HasDistinctNames n)
    → (wanted : List (List ℕ)) (n : Node) → IsJson n → of_object (object_fault judge wanted) n ≡ None → HasDistinctNames n
of_object_distinct judge each wanted n json e = by_object (λ m. IsJson m → HasDistinctNames m) (object_fault judge wanted) n e
    (λ ms f j. pairs_distinct judge each ms j (none_first (pairs_fault judge [] ms) _ f).0) json

-- references, traits, members
target_distinct : (k : List ℕ) (n : Node) → IsJson n → target_fault k n ≡ None → HasDistinctNames n
target_distinct k n json e = subst HasDistinctNames (sym (target_pair k n e).2) tt

reference_distinct : (n : Node) → IsJson n → reference_fault n ≡ None → HasDistinctNames n
reference_distinct n json e = of_object_distinct target_fault target_distinct (target_name ∷ []) n json e

entries_distinct : (at : ℕ) (ns : Nodes) → AreJson ns → entries_fault reference_fault at ns ≡ None → HaveDistinctNames ns
entries_distinct at no_nodes json e = tt
entries_distinct at (node n ns) json e =
    let parts = none_of_entries reference_fault at n ns e in
    (reference_distinct n json.0 parts.0, entries_distinct (at + 1) ns json.1 parts.1)

references_distinct : (n : Node) → IsJson n → references_fault n ≡ None → HasDistinctNames n
references_distinct n json e = by_list (λ m. IsJson m → HasDistinctNames m) (entries_fault reference_fault 0) n e
    (λ ns f j. entries_distinct 0 ns j f) json

trait_distinct : (k : List ℕ) (n : Node) → IsJson n → trait_fault k n ≡ None → HasDistinctNames n
trait_distinct k n json e = node_distinct n json (none_first (unless (is_id k) (bad_id [])) (node_fault n) e).1

traits_distinct : (n : Node) → IsJson n → traits_fault n ≡ None → HasDistinctNames n
traits_distinct n json e = of_pairs_distinct trait_fault trait_distinct n json e

part_of_member_distinct : (k : List ℕ) (n : Node) → IsJson n → part_of_member_fault k n ≡ None → HasDistinctNames n
part_of_member_distinct k n json e = elim (none_either (bytes_eq k traits_name) (traits_fault n) (target_fault k n) e) [
  | inl is ↦ traits_distinct n json is.1
  | inr other ↦ target_distinct k n json other.1
]

member_distinct : (n : Node) → IsJson n → member_fault n ≡ None → HasDistinctNames n
member_distinct n json e = of_object_distinct part_of_member_fault part_of_member_distinct (target_name ∷ []) n json e

named_member_distinct : (k : List ℕ) (n : Node) → IsJson n → named_member_fault k n ≡ None → HasDistinctNames n
named_member_distinct k n json e = member_distinct n json (none_first (unless (is_identifier k) (bad_id [])) (member_fault n) e).1

-- the fields of a shape
new_name_distinct : (k : List ℕ) (n : Node) → IsJson n → new_name_fault k n ≡ None → HasDistinctNames n
new_name_distinct k n json e =
    let parts = none_first (unless (is_id k) (bad_id [])) (identifier_fault n) e in
    subst HasDistinctNames (sym (identifier_said n parts.1).1) tt

property_distinct : (form : PropertyForm) (n : Node) → IsJson n → property_fault form n ≡ None → HasDistinctNames n
property_distinct Reference n json e = reference_distinct n json e
property_distinct References n json e = references_distinct n json e
property_distinct NamedReferences n json e = of_pairs_distinct (λ k m. reference_fault m) (λ k m j f. reference_distinct m j f) n json e
property_distinct Text n json e = by_text HasDistinctNames (λ t. None) n e (λ t f. tt)
property_distinct Rename n json e = of_pairs_distinct new_name_fault new_name_distinct n json e

form_distinct : (o : Option FieldForm) (n : Node) → IsJson n → form_fault o n ≡ None → (o ≡ Some TypeName → ⊥) → HasDistinctNames n
form_distinct None n json e other = some_is_none (field []) e
form_distinct (Some TypeName) n json e other = absurd (other refl)
form_distinct (Some OneMember) n json e other = member_distinct n json e
form_distinct (Some AllMembers) n json e other = of_pairs_distinct named_member_fault named_member_distinct n json e
form_distinct (Some (Property form)) n json e other = property_distinct form n json e
form_distinct (Some Mixins) n json e other = references_distinct n json e
form_distinct (Some Traits) n json e other = traits_distinct n json e

-- a shape: the value of its one `type` is a text
pub fields_distinct : (type : ShapeType) (ms : Members) (t : List ℕ) → AreJsonMembers ms → tree_named type_name ms ≡ Some (text t)
    → typed_fault (Some type) ms ≡ None → AreDistinct ms
fields_distinct type ms t json named e =
    let judge : List ℕ → Node → Option AstFault = λ k n. form_fault (field_named k (layout_of type)) n in
    let parts = none_first (pairs_fault judge [] ms) _ e in
    pairs_distinct_in ms judge (λ k n has j f. elim (either_way (bytes_eq k type_name)) [
      | inl is ↦ subst HasDistinctNames (sym (one_value judge [] ms parts.0 type_name (text t) named n
          (subst (λ l. HasPair l n ms) (same_text k type_name is) has))) tt
      | inr other ↦ form_distinct (field_named k (layout_of type)) n j f (only_type k type other)
    ]) [] ms (λ k n has. has) json parts.0
