-- References, traits and members without a fault say what is read of them.
use Rattle.std.proofs.Common.{◌≡◌, ℕ, ◌+◌, inl, inr, ◌⊎◌, false, List, [], ◌∷◌, ◌++◌, Option, Some, None, refl, sym, ap, subst, ◌∙◌}
use Rattle.std.proofs.Common.{bytes_eq}
use Rattle.sm_ids.specs.Identifier.{is_identifier, IsIdentifier}
use Rattle.sm_ids.specs.IdText.{IsIdText}
use Rattle.sm_tree.specs.Node.{Node, Nodes, Members, null, bool, int, number, text, bytes, tag, opaque, list, object, no_nodes, node}
use Rattle.sm_tree.specs.Node.{no_members, member}
use Rattle.sm_tree.specs.Same.{HasPair}
use Rattle.sm_model.specs.References.{absolute}
use Rattle.sm_ast.specs.Ids.{is_id}
use Rattle.sm_ast.specs.Layout.{target_name, traits_name}
use Rattle.sm_ast.specs.Ast.{OrNothing, ReferenceSays, EntriesSay, ReferencesSay, TraitPairsSay, TraitsSay, MemberParts, AstMember}
use Rattle.sm_ast.specs.Ast.{MemberPairsSay, MembersObjectSays}
use Rattle.sm_tree.specs.Parts.{text_in, entries_in, pairs_in, tree_named}
use Rattle.sm_ast.specs.Faults.{AstFault, field, bad_id, unless, of_text, of_list, of_object, names_of}
use Rattle.sm_ast.specs.Faults.{stands_in, pairs_fault, entries_fault, object_fault, id_fault, identifier_fault, target_fault}
use Rattle.sm_ast.specs.Faults.{reference_fault, references_fault, trait_fault, traits_fault, part_of_member_fault, member_fault}
use Rattle.sm_ast.specs.Faults.{named_member_fault, named_members_fault, node_fault}
use Rattle.sm_ast.specs.PartsSaid.{entries_said, pairs_said}
use Rattle.sm_ast.specs.steps.Saying.{text_there, reference_said, references_said, traits_said, traits_there}
use Rattle.sm_ast.specs.steps.Saying.{member_by_pairs, member_said, members_said}
use Rattle.sm_ast.proofs.IdTests.{passed_is_id}
use Rattle.sm_ast.proofs.Judged.{both_true, same_text, some_is_none, none_first, none_unless, none_if, none_either, none_judged}
use Rattle.sm_ast.proofs.Judged.{none_of_pairs, none_of_entries, not_before, judged_pair, named_pair, none_named, name_pair, found_named}
use Rattle.sm_ast.proofs.Judged.{stands_last}

-- a tree with a text, entries, or pairs is that text, list, or object
pub text_is : (n : Node) (t : List ℕ) → text_in n ≡ Some t → n ≡ text t
text_is (text s) t e = ap text_node (e)
  where
    text_node : Option (List ℕ) → Node
    text_node None = null
    text_node (Some s) = text s
text_is null t e = some_is_none t (sym e)
text_is (bool b) t e = some_is_none t (sym e)
text_is (int z) t e = some_is_none t (sym e)
text_is (number s) t e = some_is_none t (sym e)
text_is (bytes s) t e = some_is_none t (sym e)
text_is (tag k n) t e = some_is_none t (sym e)
text_is (opaque b) t e = some_is_none t (sym e)
text_is (list ns) t e = some_is_none t (sym e)
text_is (object ms) t e = some_is_none t (sym e)

pub list_is : (n : Node) (ns : Nodes) → entries_in n ≡ Some ns → n ≡ list ns
list_is (list ms) ns e = ap list_node e
  where
    list_node : Option Nodes → Node
    list_node None = null
    list_node (Some s) = list s
list_is null ns e = some_is_none ns (sym e)
list_is (bool b) ns e = some_is_none ns (sym e)
list_is (int z) ns e = some_is_none ns (sym e)
list_is (number s) ns e = some_is_none ns (sym e)
list_is (text s) ns e = some_is_none ns (sym e)
list_is (bytes s) ns e = some_is_none ns (sym e)
list_is (tag k n) ns e = some_is_none ns (sym e)
list_is (opaque b) ns e = some_is_none ns (sym e)
list_is (object ms) ns e = some_is_none ns (sym e)

pub object_is : (n : Node) (ms : Members) → pairs_in n ≡ Some ms → n ≡ object ms
object_is (object ns) ms e = ap object_node e
  where
    object_node : Option Members → Node
    object_node None = null
    object_node (Some s) = object s
object_is null ms e = some_is_none ms (sym e)
object_is (bool b) ms e = some_is_none ms (sym e)
object_is (int z) ms e = some_is_none ms (sym e)
object_is (number s) ms e = some_is_none ms (sym e)
object_is (text s) ms e = some_is_none ms (sym e)
object_is (bytes s) ms e = some_is_none ms (sym e)
object_is (tag k n) ms e = some_is_none ms (sym e)
object_is (opaque b) ms e = some_is_none ms (sym e)
object_is (list ns) ms e = some_is_none ms (sym e)

-- what holds of a tree that is an object holds of this one
pub by_text : (P : Node → Type 0) (judge : List ℕ → Option AstFault) (n : Node) → of_text judge n ≡ None
    → ((t : List ℕ) → judge t ≡ None → P (text t)) → P n
by_text P judge n e f = let found = none_judged judge (text_in n) e in subst P (sym (text_is n found.0 found.1)) (f found.0 found.2)

pub by_list : (P : Node → Type 0) (judge : Nodes → Option AstFault) (n : Node) → of_list judge n ≡ None
    → ((ns : Nodes) → judge ns ≡ None → P (list ns)) → P n
by_list P judge n e f = let found = none_judged judge (entries_in n) e in subst P (sym (list_is n found.0 found.1)) (f found.0 found.2)

pub by_object : (P : Node → Type 0) (judge : Members → Option AstFault) (n : Node) → of_object judge n ≡ None
    → ((ms : Members) → judge ms ≡ None → P (object ms)) → P n
by_object P judge n e f = let found = none_judged judge (pairs_in n) e in subst P (sym (object_is n found.0 found.1)) (f found.0 found.2)

-- an id, an identifier
pub id_said : (n : Node) → id_fault n ≡ None → (t : List ℕ) × (n ≡ text t) × IsIdText t
id_said n e = by_text (λ m. (t : List ℕ) × (m ≡ text t) × IsIdText t) (λ t. unless (is_id t) (bad_id [])) n e
    (λ t passed. (t, refl, passed_is_id t (none_unless (is_id t) (bad_id []) passed)))

pub identifier_said : (n : Node) → identifier_fault n ≡ None → (t : List ℕ) × (n ≡ text t) × IsIdentifier t
identifier_said n e = by_text (λ m. (t : List ℕ) × (m ≡ text t) × IsIdentifier t) (λ t. unless (is_identifier t) (bad_id [])) n e
    (λ t passed. (t, refl, none_unless (is_identifier t) (bad_id []) passed))

-- the pair of a target
pub target_pair : (k : List ℕ) (n : Node) → target_fault k n ≡ None → (k ≡ target_name) × (t : List ℕ) × (n ≡ text t) × IsIdText t
target_pair k n e =
    let parts = none_if (bytes_eq k target_name) (field []) (id_fault n) e in
    let said = id_said n parts.1 in
    (same_text k target_name parts.0, said.0, said.1, said.2)

-- a reference has that pair alone
one_pair : (ms : Members) → object_fault target_fault (target_name ∷ []) ms ≡ None → ReferenceSays (object ms) (reference_said (object ms))
one_pair no_members e = some_is_none (field []) e
one_pair (member k n no_members) e =
    let parts = none_first (pairs_fault target_fault [] (member k n no_members)) _ e in
    let said = target_pair k n (none_of_pairs target_fault [] k n no_members parts.0).1 in
    subst (λ j. ReferenceSays (object (member j n no_members)) (reference_said (object (member j n no_members)))) (sym said.0)
    (subst (λ m. ReferenceSays (object (member target_name m no_members)) (reference_said (object (member target_name m no_members))))
    (sym said.2)
    (said.1, refl, said.3, refl))
one_pair (member k n (member l m ms)) e =
    let parts = none_first (pairs_fault target_fault [] (member k n (member l m ms))) _ e in
    let first = none_of_pairs target_fault [] k n (member l m ms) parts.0 in
    let second = none_of_pairs target_fault (k ∷ []) l m ms first.2 in
    absurd (not_before target_fault (k ∷ []) (member l m ms) first.2 k (stands_last k [])
    (inl ((target_pair k n first.1).0 ∙ sym (target_pair l m second.1).0)))

pub reference_holds : (n : Node) → reference_fault n ≡ None → ReferenceSays n (reference_said n)
reference_holds n e = by_object (λ m. ReferenceSays m (reference_said m)) (object_fault target_fault (target_name ∷ [])) n e one_pair

entries_hold : (at : ℕ) (ns : Nodes) → entries_fault reference_fault at ns ≡ None → EntriesSay ns (references_said ns)
entries_hold at no_nodes e = refl
entries_hold at (node n ns) e =
    let parts = none_of_entries reference_fault at n ns e in
    (reference_said n, references_said ns, refl, reference_holds n parts.0, entries_hold (at + 1) ns parts.1)

pub references_hold : (n : Node) → references_fault n ≡ None → ReferencesSay n (references_said (entries_said n))
references_hold n e = by_list (λ m. ReferencesSay m (references_said (entries_said m))) (entries_fault reference_fault 0) n e
    (λ ns f. (ns, refl, entries_hold 0 ns f))

-- what stands under a name, where something does
pub or_nothing : {X : Type 0} (name : List ℕ) (ms : Members) (Says : Node → List X → Type 0) (there : Option Node → List X)
    → there None ≡ [] → ((n : Node) → HasPair name n ms → Says n (there (Some n))) → OrNothing name ms Says (there (tree_named name ms))
or_nothing name ms Says there empty holds = by_found (tree_named name ms) refl
  where
    by_found : (o : Option Node) → tree_named name ms ≡ o → OrNothing name ms Says (there o)
    by_found None e = inr (none_named name ms e, empty)
    by_found (Some n) e = let has = named_pair name ms n e in inl (n, has, holds n has)

-- traits
trait_pairs_hold : (before : List (List ℕ)) (ms : Members) → pairs_fault trait_fault before ms ≡ None → TraitPairsSay ms (traits_said ms)
trait_pairs_hold before no_members e = refl
trait_pairs_hold before (member k n ms) e =
    let parts = none_of_pairs trait_fault before k n ms e in
    let id = none_first (unless (is_id k) (bad_id [])) (node_fault n) parts.1 in
    (traits_said ms, passed_is_id k (none_unless (is_id k) (bad_id []) id.0), refl, trait_pairs_hold (before ++ k ∷ []) ms parts.2)

pub traits_hold : (n : Node) → traits_fault n ≡ None → TraitsSay n (traits_said (pairs_said n))
traits_hold n e = by_object (λ m. TraitsSay m (traits_said (pairs_said m))) (pairs_fault trait_fault []) n e
    (λ ms f. (ms, refl, trait_pairs_hold [] ms f))

-- members
part_of_member : (k : List ℕ) (n : Node) → part_of_member_fault k n ≡ None → (k ≡ target_name) ⊎ (k ≡ traits_name)
part_of_member k n e = elim (none_either (bytes_eq k traits_name) (traits_fault n) (target_fault k n) e) [
  | inl is ↦ inr (same_text k traits_name is.0)
  | inr other ↦ inl (target_pair k n other.1).0
]

member_parts : (name : List ℕ) (ms : Members) → object_fault part_of_member_fault (target_name ∷ []) ms ≡ None
    → MemberParts ms name (member_by_pairs name ms)
member_parts name ms e =
    let parts = none_first (pairs_fault part_of_member_fault [] ms) _ e in
    let there = both_true (stands_in target_name (names_of ms)) _ (none_unless _ (field []) parts.1) in
    let found = found_named target_name ms there.0 in
    let has = named_pair target_name ms found.0 found.1 in
    let said = id_said found.0 (judged_pair part_of_member_fault [] ms parts.0 target_name found.0 has) in
    record {
      id = said.0;
      target = subst (λ m. HasPair target_name m ms) said.1 has;
      is_id = said.2;
      fields = λ k named. let pair = name_pair k ms named in part_of_member k pair.0
          (judged_pair part_of_member_fault [] ms parts.0 k pair.0 pair.1);
      name_is = refl;
      target_is = ap (λ o. absolute (text_there o) false) (found.1 ∙ ap (λ m. Some m) said.1);
      traits = or_nothing traits_name ms TraitsSay traits_there refl
          (λ n pair. traits_hold n (judged_pair part_of_member_fault [] ms parts.0 traits_name n pair));
    }

pub member_holds : (name : List ℕ) (n : Node) → member_fault n ≡ None → AstMember name n (member_said name n)
member_holds name n e = by_object (λ m. AstMember name m (member_said name m)) (object_fault part_of_member_fault (target_name ∷ [])) n e
    (λ ms f. (ms, refl, member_parts name ms f))

member_pairs_hold : (before : List (List ℕ)) (ms : Members) → pairs_fault named_member_fault before ms ≡ None
    → MemberPairsSay ms (members_said ms)
member_pairs_hold before no_members e = refl
member_pairs_hold before (member k n ms) e =
    let parts = none_of_pairs named_member_fault before k n ms e in
    let name = none_first (unless (is_identifier k) (bad_id [])) (member_fault n) parts.1 in (
      member_said k n,
      members_said ms,
      refl,
      none_unless (is_identifier k) (bad_id []) name.0,
      member_holds k n name.1,
      member_pairs_hold (before ++ k ∷ []) ms parts.2,
    )

pub members_hold : (n : Node) → named_members_fault n ≡ None → MembersObjectSays n (members_said (pairs_said n))
members_hold n e = by_object (λ m. MembersObjectSays m (members_said (pairs_said m))) (pairs_fault named_member_fault []) n e
    (λ ms f. (ms, refl, member_pairs_hold [] ms f))
