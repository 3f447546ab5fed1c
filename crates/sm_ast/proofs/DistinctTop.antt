-- Where nothing is refused, no name stands twice in any object of the whole tree.
use Rattle.std.proofs.Common.{◌≡◌, ℕ, inl, inr, List, [], ◌∷◌, Option, Some, None, refl, sym, ap, subst, ◌∙◌, bytes_eq, codes}
use Rattle.sm_tree.specs.Node.{Node, Members}
use Rattle.sm_tree.specs.Same.{HasDistinctNames, AreDistinct}
use Rattle.sm_tree.specs.Json.{IsJson, AreJsonMembers}
use Rattle.sm_model.specs.Kinds.{kind_name}
use Rattle.sm_ast.specs.declared.layout.ShapeType.{ShapeType}
use Rattle.sm_ast.specs.declared.layout.ShapeType.TheVariants.{Defined, Applied}
use Rattle.sm_ast.specs.Layout.{type_name, smithy_name, metadata_name, shapes_name}
use Rattle.sm_tree.specs.Parts.{tree_named}
use Rattle.sm_ast.specs.Faults.{field, wrong_type, bad_id, version, unless, is_version, of_object, pairs_fault, members_fault}
use Rattle.sm_ast.specs.Faults.{type_said, typed_fault, shape_pairs_fault, shape_value_fault, is_shape_key, shape_fault, top_fault}
use Rattle.sm_ast.specs.Faults.{ast_fault}
use Rattle.sm_ast.proofs.Judged.{some_is_none, none_first, none_unless, none_if, none_either}
use Rattle.sm_ast.proofs.SaidReferences.{by_object}
use Rattle.sm_ast.proofs.SaidTypes.{defined_is, applied_is, version_text}
use Rattle.sm_ast.proofs.DistinctNames.{members_distinct, of_pairs_distinct, of_object_distinct, fields_distinct}

typed_distinct : (ms : Members) (t : Node) → AreJsonMembers ms → tree_named type_name ms ≡ Some t → (o : Option ShapeType) → type_said t ≡ o
    → typed_fault o ms ≡ None → AreDistinct ms
typed_distinct ms t json named None said e = some_is_none (wrong_type []) e
typed_distinct ms t json named (Some (Defined kind)) said e =
    fields_distinct (Defined kind) ms (kind_name kind) json (named ∙ ap (λ n. Some n) (defined_is t kind said)) e
typed_distinct ms t json named (Some Applied) said e =
    fields_distinct Applied ms (codes "apply") json (named ∙ ap (λ n. Some n) (applied_is t said)) e

shape_pairs_distinct : (ms : Members) → AreJsonMembers ms → (o : Option Node) → tree_named type_name ms ≡ o → shape_pairs_fault o ms ≡ None
    → AreDistinct ms
shape_pairs_distinct ms json None named e = some_is_none (field []) (none_first (members_fault [] ms) (Some (field [])) e).1
shape_pairs_distinct ms json (Some t) named e = typed_distinct ms t json named (type_said t) refl e

shape_distinct : (k : List ℕ) (n : Node) → IsJson n → shape_fault k n ≡ None → HasDistinctNames n
shape_distinct k n json e =
    let parts = none_first (unless (is_shape_key k n) (bad_id [])) (shape_value_fault n) e in
    by_object (λ m. IsJson m → HasDistinctNames m) (λ ms. shape_pairs_fault (tree_named type_name ms) ms) n parts.1
    (λ ms f j. shape_pairs_distinct ms j (tree_named type_name ms) refl f) json

smithy_distinct : (n : Node) → unless (is_version n) version ≡ None → HasDistinctNames n
smithy_distinct n e = elim (version_text n (none_unless (is_version n) version e)) [
  | inl is ↦ subst HasDistinctNames (sym is) tt
  | inr is ↦ subst HasDistinctNames (sym is) tt
]

top_distinct : (k : List ℕ) (n : Node) → IsJson n → top_fault k n ≡ None → HasDistinctNames n
top_distinct k n json e = elim (none_either (bytes_eq k smithy_name) (unless (is_version n) version) _ e) [
  | inl is ↦ smithy_distinct n is.1
  | inr other ↦ elim (none_either (bytes_eq k metadata_name) (of_object (members_fault []) n) _ other.1) [
    | inl is ↦ by_object (λ m. IsJson m → HasDistinctNames m) (members_fault []) n is.1 (λ ms f j. members_distinct [] ms j f) json
    | inr further ↦ let last = none_if (bytes_eq k shapes_name) (field []) (of_object (pairs_fault shape_fault []) n) further.1 in
        of_pairs_distinct shape_fault shape_distinct n json last.1
  ]
]

pub ast_distinct : (n : Node) → IsJson n → ast_fault n ≡ None → HasDistinctNames n
ast_distinct n json e = of_object_distinct top_fault top_distinct (smithy_name ∷ []) n json e
