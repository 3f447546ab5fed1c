-- What the relations say is refused nowhere: pairs with distinct names, nodes, references, traits, members and properties.
use Rattle.std.proofs.Common.{◌≡◌, ℕ, ◌+◌, inl, inr, ◌&&◌, ◌||◌, Bool, true, false, List, [], ◌∷◌, ◌++◌, Option, Some, None, refl, sym}
use Rattle.std.proofs.Common.{ap, subst, ◌∙◌, if◌then◌else◌, bytes_eq}
use Rattle.std.proofs.lemmas.List.Folds.{list_any-append}
use Rattle.sm_ids.specs.Identifier.{IsIdentifier}
use Rattle.sm_ids.specs.IdText.{IsIdText}
use Rattle.sm_tree.specs.Node.{Node, Nodes, Members, null, bool, int, number, text, bytes, tag, opaque, list, object, no_nodes, node}
use Rattle.sm_tree.specs.Node.{no_members, member}
use Rattle.sm_tree.specs.Same.{HasPair, HasName, HasDistinctNames, HaveDistinctNames, AreDistinct}
use Rattle.sm_tree.specs.declared.path.Step.TheVariants.{Index, Key}
use Rattle.sm_model.specs.Raw.{Raw, Raws, RawMembers}
use Rattle.sm_model.specs.Said.{TraitSaid, MemberSaid}
use Rattle.sm_model.specs.declared.reference.Ref.{Ref}
use Rattle.sm_model.specs.declared.property.PropertyForm.{PropertyForm}
use Rattle.sm_model.specs.declared.property.PropertyForm.TheVariants.{Reference, References, NamedReferences, Text, Rename}
use Rattle.sm_ast.specs.Layout.{target_name, traits_name}
use Rattle.sm_ast.specs.Ast.{ReferenceSays, EntriesSay, ReferencesSay, TraitPairsSay, TraitsSay, MemberParts, AstMember, MemberPairsSay}
use Rattle.sm_ast.specs.Ast.{MembersObjectSays, RawReferencesSay, NamedReferencesSay, NewNamesSay, PropertySays}
use Rattle.sm_ast.specs.Faults.{AstFault, field, bad_id, unless, earlier_of, seen_from, stands_in, names_of, are_there, pairs_fault}
use Rattle.sm_ast.specs.Faults.{entries_fault, object_fault, node_fault, nodes_fault, members_fault, identifier_fault, reference_fault}
use Rattle.sm_ast.specs.Faults.{references_fault, new_name_fault, trait_fault, traits_fault, part_of_member_fault, member_fault}
use Rattle.sm_tree.specs.Parts.{tree_named}
use Rattle.sm_ast.specs.Faults.{named_member_fault, named_members_fault, property_fault}
use Rattle.sm_ast.proofs.IdTests.{id_passes}
use Rattle.sm_ast.proofs.Judged.{either_way, same_text, test_same, some_same, pair_name, stands_named}
use Rattle.sm_ast.proofs.Telling.{passed}

pub not_same : (s t : List ℕ) → (s ≡ t → ⊥) → bytes_eq s t ≡ false
not_same s t differ = elim (either_way (bytes_eq s t)) [
  | inl same ↦ absurd (differ (same_text s t same))
  | inr other ↦ other
]

-- names that none of those before is, with one more
or_neither : (a b : Bool) → a ≡ false → b ≡ false → (a || (b || false)) ≡ false
or_neither a b e f = ap (λ c. c || (b || false)) e ∙ ap (λ c. c || false) f

still_fresh : (before : List (List ℕ)) (k : List ℕ) (n : Node) (ms : Members)
    → ((j : List ℕ) → HasName j (member k n ms) → stands_in j before ≡ false)
    → (HasName k ms → ⊥) → (j : List ℕ) → HasName j ms → stands_in j (before ++ k ∷ []) ≡ false
still_fresh before k n ms fresh once j has =
    list_any-append (λ l. bytes_eq l j) before (k ∷ [])
    ∙ or_neither (stands_in j before) (bytes_eq k j) (fresh j (inr has))
    (not_same k j (λ same. once (subst (λ l. HasName l ms) (sym same) has)))

-- pairs that each pass
pub pairs_pass_behind : (judge : List ℕ → Node → Option AstFault) (before : List (List ℕ)) (ms : Members)
    → ((j : List ℕ) → HasName j ms → stands_in j before ≡ false) → AreDistinct ms
    → ((k : List ℕ) (n : Node) → HasPair k n ms → judge k n ≡ None) → pairs_fault judge before ms ≡ None
pairs_pass_behind judge before no_members fresh distinct each = refl
pairs_pass_behind judge before (member k n ms) fresh distinct each =
    ap (λ o. earlier_of o (pairs_fault judge (before ++ k ∷ []) ms))
    (passed before k (judge k n) (fresh k (inl refl)) (each k n (inl (refl, refl))))
    ∙ pairs_pass_behind judge (before ++ k ∷ []) ms (still_fresh before k n ms fresh distinct.0) distinct.2 (λ j m has. each j m (inr has))

pub pairs_pass : (judge : List ℕ → Node → Option AstFault) (ms : Members) → AreDistinct ms
    → ((k : List ℕ) (n : Node) → HasPair k n ms → judge k n ≡ None) → pairs_fault judge [] ms ≡ None
pairs_pass judge ms distinct each = pairs_pass_behind judge [] ms (λ j has. refl) distinct each

pub object_passes : (judge : List ℕ → Node → Option AstFault) (wanted : List (List ℕ)) (ms : Members) → pairs_fault judge [] ms ≡ None
    → are_there wanted (names_of ms) ≡ true → object_fault judge wanted ms ≡ None
object_passes judge wanted ms e there =
    ap (λ o. earlier_of o (unless (are_there wanted (names_of ms)) (field []))) e ∙ ap (λ b. unless b (field [])) there

-- what stands under a name, where names differ
pub pair_named : (k : List ℕ) (n : Node) (ms : Members) → AreDistinct ms → HasPair k n ms → tree_named k ms ≡ Some n
pair_named k n no_members distinct has = absurd has
pair_named k n (member l m ms) distinct (inl same) =
    ap (λ b. if b then Some m else tree_named k ms) (test_same l k (sym same.0)) ∙ ap (λ x. Some x) (sym same.1)
pair_named k n (member l m ms) distinct (inr has) =
    ap (λ b. if b then Some m else tree_named k ms) (not_same l k
    (λ same. distinct.0 (subst (λ j. HasName j ms) (sym same) (pair_name k n ms has))))
    ∙ pair_named k n ms distinct.2 has

pub one_under : (k : List ℕ) (n m : Node) (ms : Members) → AreDistinct ms → HasPair k n ms → HasPair k m ms → n ≡ m
one_under k n m ms distinct has other = some_same n m (sym (pair_named k n ms distinct has) ∙ pair_named k m ms distinct other)

pub stands_under : (k : List ℕ) (n : Node) (ms : Members) → AreDistinct ms → HasPair k n ms → stands_in k (names_of ms) ≡ true
stands_under k n ms distinct has = stands_named k ms n (pair_named k n ms distinct has)

pub distinct_under : (k : List ℕ) (n : Node) (ms : Members) → AreDistinct ms → HasPair k n ms → HasDistinctNames n
distinct_under k n no_members distinct has = absurd has
distinct_under k n (member l m ms) distinct (inl same) = subst HasDistinctNames (sym same.1) distinct.1
distinct_under k n (member l m ms) distinct (inr has) = distinct_under k n ms distinct.2 has

-- nodes
mutual
  pub node_passes : (n : Node) → HasDistinctNames n → node_fault n ≡ None
  node_passes null d = refl
  node_passes (bool b) d = refl
  node_passes (int z) d = refl
  node_passes (number t) d = refl
  node_passes (text t) d = refl
  node_passes (bytes t) d = refl
  node_passes (tag k n) d = refl
  node_passes (opaque b) d = refl
  node_passes (list ns) d = nodes_pass 0 ns d
  node_passes (object ms) d = members_pass [] ms (λ j has. refl) d

  nodes_pass : (at : ℕ) (ns : Nodes) → HaveDistinctNames ns → nodes_fault at ns ≡ None
  nodes_pass at no_nodes d = refl
  nodes_pass at (node n ns) d =
      ap (λ o. earlier_of (seen_from (Index at) o) (nodes_fault (at + 1) ns)) (node_passes n d.0) ∙ nodes_pass (at + 1) ns d.1

  pub members_pass : (before : List (List ℕ)) (ms : Members) → ((j : List ℕ) → HasName j ms → stands_in j before ≡ false) → AreDistinct ms
      → members_fault before ms ≡ None
  members_pass before no_members fresh d = refl
  members_pass before (member k n ms) fresh d =
      ap (λ o. earlier_of o (members_fault (before ++ k ∷ []) ms)) (passed before k (node_fault n) (fresh k (inl refl)) (node_passes n d.1))
      ∙ members_pass (before ++ k ∷ []) ms (still_fresh before k n ms fresh d.0) d.2

-- references
pub reference_passes : (n : Node) (r : Ref) → ReferenceSays n r → reference_fault n ≡ None
reference_passes n r (id, is, is_id_text, said) =
    ap reference_fault is
    ∙ ap (λ b. earlier_of (earlier_of (seen_from (Key target_name) (unless b (bad_id []))) None) None) (id_passes id is_id_text)

entries_pass : (at : ℕ) (ns : Nodes) (rs : List Ref) → EntriesSay ns rs → entries_fault reference_fault at ns ≡ None
entries_pass at no_nodes rs says = refl
entries_pass at (node n ns) rs (r, more, is, says, rest) =
    ap (λ o. earlier_of (seen_from (Index at) o) (entries_fault reference_fault (at + 1) ns)) (reference_passes n r says)
    ∙ entries_pass (at + 1) ns more rest

pub references_pass : (n : Node) (rs : List Ref) → ReferencesSay n rs → references_fault n ≡ None
references_pass n rs (ns, is, says) = ap references_fault is ∙ entries_pass 0 ns rs says

-- traits
trait_id : (ms : Members) (ts : List TraitSaid) → TraitPairsSay ms ts → (k : List ℕ) (n : Node) → HasPair k n ms → IsIdText k
trait_id no_members ts says k n has = absurd has
trait_id (member l m ms) ts (more, id, is, rest) k n (inl same) = subst IsIdText (sym same.0) id
trait_id (member l m ms) ts (more, id, is, rest) k n (inr has) = trait_id ms more rest k n has

trait_passes : (k : List ℕ) (n : Node) → IsIdText k → HasDistinctNames n → trait_fault k n ≡ None
trait_passes k n id d = ap (λ b. earlier_of (unless b (bad_id [])) (node_fault n)) (id_passes k id) ∙ node_passes n d

pub traits_pass : (n : Node) (ts : List TraitSaid) → HasDistinctNames n → TraitsSay n ts → traits_fault n ≡ None
traits_pass n ts d (ms, is, says) =
    let distinct : AreDistinct ms = subst HasDistinctNames is d in
    ap traits_fault is ∙ pairs_pass trait_fault ms distinct
    (λ k m has. trait_passes k m (trait_id ms ts says k m has) (distinct_under k m ms distinct has))

-- members
part_passes : (name : List ℕ) (ms : Members) (said : MemberSaid) → AreDistinct ms → MemberParts ms name said → (k : List ℕ) (n : Node)
    → HasPair k n ms → part_of_member_fault k n ≡ None
part_passes name ms said d parts k n has = elim (parts.fields k (pair_name k n ms has)) [
  | inl is ↦
      let here = subst (λ j. HasPair j n ms) is has in
      ap (λ j. part_of_member_fault j n) is ∙ ap (part_of_member_fault target_name)
      (one_under target_name n (text parts.id) ms d here parts.target)
      ∙ ap (λ b. unless b (bad_id [])) (id_passes parts.id parts.is_id)
  | inr is ↦
      let here = subst (λ j. HasPair j n ms) is has in
      ap (λ j. part_of_member_fault j n) is ∙ elim parts.traits [
        | inl (m, there, says) ↦ ap (part_of_member_fault traits_name) (one_under traits_name n m ms d here there)
            ∙ traits_pass m said.traits (distinct_under traits_name m ms d there) says
        | inr (nowhere, none) ↦ absurd (nowhere (pair_name traits_name n ms here))
      ]
]

pub member_passes : (name : List ℕ) (n : Node) (said : MemberSaid) → HasDistinctNames n → AstMember name n said → member_fault n ≡ None
member_passes name n said d (ms, is, parts) =
    let distinct : AreDistinct ms = subst HasDistinctNames is d in
    ap member_fault is ∙ object_passes part_of_member_fault (target_name ∷ []) ms
    (pairs_pass part_of_member_fault ms distinct (part_passes name ms said distinct parts))
    (ap (λ b. b && are_there [] (names_of ms)) (stands_under target_name (text parts.id) ms distinct parts.target))

named_member : (ms : Members) (said : List MemberSaid) → MemberPairsSay ms said → (k : List ℕ) (n : Node) → HasPair k n ms
    → IsIdentifier k × (m : MemberSaid) × AstMember k n m
named_member no_members said says k n has = absurd has
named_member (member l o ms) said (m, more, is, name, says, rest) k n (inl same) =
    (subst IsIdentifier (sym same.0) name, m, subst (λ j. AstMember j n m) (sym same.0) (subst (λ x. AstMember l x m) (sym same.1) says))
named_member (member l o ms) said (m, more, is, name, says, rest) k n (inr has) = named_member ms more rest k n has

pub members_pass_named : (n : Node) (said : List MemberSaid) → HasDistinctNames n → MembersObjectSays n said → named_members_fault n ≡ None
members_pass_named n said d (ms, is, says) =
    let distinct : AreDistinct ms = subst HasDistinctNames is d in
    ap named_members_fault is ∙ pairs_pass named_member_fault ms distinct
    (λ k m has. let found = named_member ms said says k m has in
    ap (λ b. earlier_of (unless b (bad_id [])) (member_fault m)) found.0
    ∙ member_passes k m found.1 (distinct_under k m ms distinct has) found.2)

-- fields of operations, services and resources
raw_entries_pass : (at : ℕ) (ns : Nodes) (said : Raws) → RawReferencesSay ns said → entries_fault reference_fault at ns ≡ None
raw_entries_pass at no_nodes said says = refl
raw_entries_pass at (node n ns) said (r, more, is, (id, says, same), rest) =
    ap (λ o. earlier_of (seen_from (Index at) o) (entries_fault reference_fault (at + 1) ns)) (reference_passes n id says)
    ∙ raw_entries_pass (at + 1) ns more rest

named_reference : (ms : Members) (said : RawMembers) → NamedReferencesSay ms said → (k : List ℕ) (n : Node) → HasPair k n ms
    → reference_fault n ≡ None
named_reference no_members said says k n has = absurd has
named_reference (member l m ms) said (r, more, is, (id, says, same), rest) k n (inl at) = ap reference_fault at.1
    ∙ reference_passes m id says
named_reference (member l m ms) said (r, more, is, (id, says, same), rest) k n (inr has) = named_reference ms more rest k n has

new_name : (ms : Members) (said : RawMembers) → NewNamesSay ms said → (k : List ℕ) (n : Node) → HasPair k n ms → new_name_fault k n ≡ None
new_name no_members said says k n has = absurd has
new_name (member l m ms) said (name, more, id, is, identifier, same, rest) k n (inl at) =
    ap (λ j. new_name_fault j n) at.0 ∙ ap (new_name_fault l) (at.1 ∙ is)
    ∙ ap (λ b. earlier_of (unless b (bad_id [])) (identifier_fault (text name))) (id_passes l id)
    ∙ ap (λ b. unless b (bad_id [])) identifier
new_name (member l m ms) said (name, more, id, is, identifier, same, rest) k n (inr has) = new_name ms more rest k n has

pub property_passes : (form : PropertyForm) (n : Node) (r : Raw) → HasDistinctNames n → PropertySays form n r → property_fault form n ≡ None
property_passes Reference n r d (id, says, same) = reference_passes n id says
property_passes References n r d (ns, entries, is, same, says) = ap references_fault is ∙ raw_entries_pass 0 ns entries says
property_passes NamedReferences n r d (ms, pairs, is, same, says) =
    ap (property_fault NamedReferences) is ∙ pairs_pass (λ k m. reference_fault m) ms (subst HasDistinctNames is d)
    (named_reference ms pairs says)
property_passes Text n r d (t, is, same) = ap (property_fault Text) is
property_passes Rename n r d (ms, pairs, is, same, says) =
    ap (property_fault Rename) is ∙ pairs_pass new_name_fault ms (subst HasDistinctNames is d) (new_name ms pairs says)
