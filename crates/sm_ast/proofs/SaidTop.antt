-- A whole tree without a fault says what is read of it.
use Rattle.std.proofs.Common.{◌≡◌, ℕ, inl, inr, true, List, [], ◌∷◌, ◌++◌, None, refl, sym, subst, bytes_eq}
use Rattle.sm_tree.specs.Node.{Node, Members, no_members, member}
use Rattle.sm_tree.specs.Same.{HasDistinctNames}
use Rattle.sm_tree.specs.Json.{IsJson}
use Rattle.sm_ast.specs.Layout.{smithy_name, metadata_name, shapes_name}
use Rattle.sm_ast.specs.Ast.{ShapePairsSay, MetadataPairsSay, TopPairSays, TopPairsSay, Ast}
use Rattle.sm_ast.specs.Faults.{field, version, unless, is_version, of_object, names_of, stands_in, pairs_fault, object_fault}
use Rattle.sm_ast.specs.Faults.{members_fault, shape_fault, top_fault, ast_fault}
use Rattle.sm_ast.specs.steps.Saying.{statement_said, shape_statements, metadata_statements, top_said, top_statements, ast_said}
use Rattle.sm_ast.proofs.Judged.{both_true, same_text, none_first, none_unless, none_if, none_either, none_of_pairs, named_pair}
use Rattle.sm_ast.proofs.Judged.{found_named, pair_name}
use Rattle.sm_ast.proofs.SaidReferences.{by_object}
use Rattle.sm_ast.proofs.SaidTypes.{version_text}
use Rattle.sm_ast.proofs.SaidShapes.{shape_holds}
use Rattle.sm_ast.proofs.DistinctTop.{ast_distinct}

shape_pairs_hold : (before : List (List ℕ)) (ms : Members) → pairs_fault shape_fault before ms ≡ None
    → ShapePairsSay ms (shape_statements ms)
shape_pairs_hold before no_members e = refl
shape_pairs_hold before (member k n ms) e =
    let parts = none_of_pairs shape_fault before k n ms e in
    (statement_said k n, shape_statements ms, refl, shape_holds k n parts.1, shape_pairs_hold (before ++ k ∷ []) ms parts.2)

metadata_hold : (ms : Members) → MetadataPairsSay ms (metadata_statements ms)
metadata_hold no_members = refl
metadata_hold (member k n ms) = (metadata_statements ms, refl, metadata_hold ms)

-- a pair of the top object, by its name
at_smithy : (n : Node) → unless (is_version n) version ≡ None → TopPairSays smithy_name n (top_said smithy_name n)
at_smithy n e = inl (refl, version_text n (none_unless (is_version n) version e), refl)

at_metadata : (n : Node) → of_object (members_fault []) n ≡ None → TopPairSays metadata_name n (top_said metadata_name n)
at_metadata n e = by_object (λ m. TopPairSays metadata_name m (top_said metadata_name m)) (members_fault []) n e
    (λ ms f. inr (inl (refl, ms, refl, metadata_hold ms)))

at_shapes : (n : Node) → of_object (pairs_fault shape_fault []) n ≡ None → TopPairSays shapes_name n (top_said shapes_name n)
at_shapes n e = by_object (λ m. TopPairSays shapes_name m (top_said shapes_name m)) (pairs_fault shape_fault []) n e
    (λ ms f. inr (inr (refl, ms, refl, shape_pairs_hold [] ms f)))

named_at : (k name : List ℕ) (n : Node) → bytes_eq k name ≡ true → TopPairSays name n (top_said name n) → TopPairSays k n (top_said k n)
named_at k name n same says = subst (λ j. TopPairSays j n (top_said j n)) (sym (same_text k name same)) says

top_pair_holds : (k : List ℕ) (n : Node) → top_fault k n ≡ None → TopPairSays k n (top_said k n)
top_pair_holds k n e = elim (none_either (bytes_eq k smithy_name) (unless (is_version n) version) _ e) [
  | inl is ↦ named_at k smithy_name n is.0 (at_smithy n is.1)
  | inr other ↦ elim (none_either (bytes_eq k metadata_name) (of_object (members_fault []) n) _ other.1) [
    | inl is ↦ named_at k metadata_name n is.0 (at_metadata n is.1)
    | inr further ↦ let last = none_if (bytes_eq k shapes_name) (field []) (of_object (pairs_fault shape_fault []) n) further.1 in
        named_at k shapes_name n last.0 (at_shapes n last.1)
  ]
]

top_pairs_hold : (before : List (List ℕ)) (ms : Members) → pairs_fault top_fault before ms ≡ None → TopPairsSay ms (top_statements ms)
top_pairs_hold before no_members e = refl
top_pairs_hold before (member k n ms) e =
    let parts = none_of_pairs top_fault before k n ms e in
    (top_said k n, top_statements ms, refl, top_pair_holds k n parts.1, top_pairs_hold (before ++ k ∷ []) ms parts.2)

-- of a tree without a fault
pub ast_holds : (n : Node) → IsJson n → ast_fault n ≡ None → Ast (ast_said n) n
ast_holds n json e = by_object (λ m. HasDistinctNames m → Ast (ast_said m) m) (object_fault top_fault (smithy_name ∷ [])) n e
    (λ ms f distinct.
    let parts = none_first (pairs_fault top_fault [] ms) _ f in
    let there = both_true (stands_in smithy_name (names_of ms)) _ (none_unless _ (field []) parts.1) in
    let found = found_named smithy_name ms there.0 in
    record {
      distinct = distinct;
      pairs = ms;
      is_object = refl;
      has_version = pair_name smithy_name found.0 ms (named_pair smithy_name ms found.0 found.1);
      says = top_pairs_hold [] ms parts.0;
    })
    (ast_distinct n json e)
