-- What stands in a graph, what its shapes list and refer to, and which traits stand there: few ids each.
use Rattle.std.proofs.Common.{◌≡◌, ◌⊎◌, inl, inr, ℕ, true, List, Option, Some, None, refl, sym, ap, ◌∙◌}
use Rattle.std.specs.Prelude.{is_some}
use Rattle.std.specs.FinMap as fin
use Rattle.std.specs.List.{Contains}
use Rattle.std.proofs.lemmas.Bool.{true≢false}
use Rattle.std.proofs.lemmas.Option.{none-some, same_Some}
use Rattle.sm_tree.specs.Node.{Node, Nodes, Members, null, bool, int, number, text, bytes, tag, opaque, list, object, no_nodes, node}
use Rattle.sm_tree.specs.Node.{no_members, member}
use Rattle.sm_tree.specs.Parts.{text_in}
use Rattle.sm_tree.specs.Same.{HasName, HasPair}
use Rattle.sm_model.specs.Graphs.{Entry, GraphMaps, ShapeEntry, member_entry, shape_entry, traits_in}
use Rattle.sm_model.specs.Relations.{HasBodyPair, HasEntry, IsEntryText, IsInGraph, IsValueText, Refers, SaysRelated}
use Rattle.sm_model.specs.declared.relation.Relation.{Relation}
use Rattle.sm_compile.specs.Sound.{trait_in, trait_of}
use Rattle.sm_rules.specs.Words.{has_trait}
use Rattle.sm_compile.proofs.OnePatterns.{same_shape}
use Rattle.sm_load.proofs.Few.{AreFew, few_among, few_by, few_either, few_is, few_keys, few_none, few_one, few_same}

-- what nodes refer to
text_once : (n : Node) → AreFew (λ id. n ≡ text id)
text_once n = few_one (λ id. n ≡ text id) (λ x y h k. same_Some x y (ap text_in (sym h ∙ k)))

few_entries : (ns : Nodes) → AreFew (λ id. IsEntryText id ns)
few_entries no_nodes = few_none (λ id. IsEntryText id no_nodes) (λ id h. h)
few_entries (node n ns) = few_either (λ id. n ≡ text id) (λ id. IsEntryText id ns) (text_once n) (few_entries ns)

few_values : (ms : Members) → AreFew (λ id. IsValueText id ms)
few_values no_members = few_none (λ id. IsValueText id no_members) (λ id h. h)
few_values (member k n ms) = few_either (λ id. n ≡ text id) (λ id. IsValueText id ms) (text_once n) (few_values ms)

few_referred : (n : Node) → AreFew (λ id. Refers id n)
few_referred (text t) = few_one (λ id. t ≡ id) (λ x y h k. sym h ∙ k)
few_referred (list ns) = few_entries ns
few_referred (object ms) = few_values ms
few_referred null = few_none (λ id. Refers id null) (λ id h. h)
few_referred (bool b) = few_none (λ id. Refers id (bool b)) (λ id h. h)
few_referred (int z) = few_none (λ id. Refers id (int z)) (λ id h. h)
few_referred (number t) = few_none (λ id. Refers id (number t)) (λ id h. h)
few_referred (bytes t) = few_none (λ id. Refers id (bytes t)) (λ id h. h)
few_referred (tag k n) = few_none (λ id. Refers id (tag k n)) (λ id h. h)
few_referred (opaque b) = few_none (λ id. Refers id (opaque b)) (λ id h. h)

-- the trees and the names of pairs
few_trees : (ms : Members) → AreFew (λ n. (k : List ℕ) × HasPair k n ms)
few_trees no_members = few_none (λ n. (k : List ℕ) × HasPair k n no_members) (λ n h. h.1)
few_trees (member l m ms) =
    few_same (λ n. (n ≡ m) ⊎ ((k : List ℕ) × HasPair k n ms)) (λ n. (k : List ℕ) × HasPair k n (member l m ms))
    (λ n (k, h). elim h [ inl here ↦ inl here.1 | inr later ↦ inr (k, later) ])
    (few_either (λ n. n ≡ m) (λ n. (k : List ℕ) × HasPair k n ms) (few_is m) (few_trees ms))

pub few_names : (ms : Members) → AreFew (λ k. HasName k ms)
few_names no_members = few_none (λ k. HasName k no_members) (λ k h. h)
few_names (member l m ms) = few_either (λ k. k ≡ l) (λ k. HasName k ms) (few_is l) (few_names ms)

abbrev HasTree : Node → Node → Type 0
HasTree body n = (k : List ℕ) × HasBodyPair k n body

few_in_body : (body : Node) → AreFew (HasTree body)
few_in_body (object ms) = few_trees ms
few_in_body (text t) = few_none (HasTree (text t)) (λ n h. h.1)
few_in_body (list ns) = few_none (HasTree (list ns)) (λ n h. h.1)
few_in_body null = few_none (HasTree null) (λ n h. h.1)
few_in_body (bool b) = few_none (HasTree (bool b)) (λ n h. h.1)
few_in_body (int z) = few_none (HasTree (int z)) (λ n h. h.1)
few_in_body (number t) = few_none (HasTree (number t)) (λ n h. h.1)
few_in_body (bytes t) = few_none (HasTree (bytes t)) (λ n h. h.1)
few_in_body (tag i n) = few_none (HasTree (tag i n)) (λ m h. h.1)
few_in_body (opaque b) = few_none (HasTree (opaque b)) (λ n h. h.1)

abbrev pub Says : Entry → List ℕ → Type 0
Says e id = (relation : Relation) × SaysRelated relation e id

pub few_said : (e : Entry) → AreFew (Says e)
few_said (shape_entry s) =
    few_same (λ id. Contains s.members id ⊎ ((n : Node) × HasTree s.properties n × Refers id n)) (Says (shape_entry s))
    (λ id (relation, h). elim h [
      | inl lists ↦ inl lists.1
      | inr says ↦ inr (says.1, (says.0, says.2), says.4)
    ])
    (few_either (Contains s.members) (λ id. (n : Node) × HasTree s.properties n × Refers id n) (few_among s.members)
    (few_by (HasTree s.properties) (λ n id. Refers id n) (few_in_body s.properties) few_referred))
few_said (member_entry m) = few_one (Says (member_entry m)) (λ x y (r, h) (q, k). sym h.1 ∙ k.1)

some_value : (o : Option Node) → is_some o ≡ true → (n : Node) × (o ≡ Some n)
some_value None h = absurd (true≢false (sym h))
some_value (Some n) h = (n, refl)

-- the traits of an entry
few_in_entry : (o : Option Entry) → AreFew (λ trait. (n : Node) × (trait_in trait o ≡ Some n))
few_in_entry None = few_none (λ trait. (n : Node) × (trait_in trait None ≡ Some n)) (λ trait h. none-some h.0 h.1)
few_in_entry (Some e) = few_keys (traits_in e)

module _ (g : GraphMaps) where
  pub few_shapes : AreFew (IsInGraph g)
  few_shapes = few_keys g.shapes

  pub few_entries_there : (id : List ℕ) → AreFew (HasEntry g id)
  few_entries_there id = few_one (HasEntry g id) (λ e f h k. same_Some e f (sym h ∙ k))

  pub few_shape_there : (id : List ℕ) → AreFew (λ s. HasEntry g id (shape_entry s))
  few_shape_there id = few_one (λ s. HasEntry g id (shape_entry s)) (same_shape g id)

  pub few_traits : (id : List ℕ) → AreFew (λ trait. (n : Node) × (trait_of g id trait ≡ Some n))
  few_traits id = few_in_entry (fin.get g.shapes id)

  -- the value of a trait that is there
  pub trait_there : (id trait : List ℕ) (e : Entry) → HasEntry g id e → has_trait trait (traits_in e) ≡ true
      → (n : Node) × (trait_of g id trait ≡ Some n)
  trait_there id trait e there has =
      let found = some_value (fin.get (traits_in e) trait) has in
      (found.0, ap (trait_in trait) there ∙ found.1)

  -- and what has a trait is there
  pub carrier_there : (id trait : List ℕ) (n : Node) → trait_of g id trait ≡ Some n → IsInGraph g id
  carrier_there id trait n h = by (fin.get g.shapes id) h
    where
      by : (o : Option Entry) → trait_in trait o ≡ Some n → (e : Entry) × (o ≡ Some e)
      by None k = absurd (none-some n k)
      by (Some e) k = (e, refl)

  -- what a rule may speak of: what stands there, or what a shape lists
  abbrev pub IsListedBy : List ℕ → List ℕ → Type 0
  IsListedBy shape id = (s : ShapeEntry) × HasEntry g shape (shape_entry s) × Contains s.members id

  pub few_listed : (shape : List ℕ) → AreFew (IsListedBy shape)
  few_listed shape =
      few_by (λ s. HasEntry g shape (shape_entry s)) (λ s. Contains s.members) (few_shape_there shape) (λ s. few_among s.members)

  abbrev pub IsListedSome : List ℕ → Type 0
  IsListedSome id = (shape : List ℕ) × IsInGraph g shape × IsListedBy shape id

  abbrev pub IsSubject : List ℕ → Type 0
  IsSubject id = IsInGraph g id ⊎ IsListedSome id

  pub few_subjects : AreFew IsSubject
  few_subjects = few_either (IsInGraph g) IsListedSome few_shapes (few_by (IsInGraph g) IsListedBy few_shapes few_listed)
