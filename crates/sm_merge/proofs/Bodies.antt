-- Bodies: lists and objects without entries, and the fields of a type in their order.
use Rattle.std.proofs.Common.{◌≡◌, ◌<◌, ℕ, false, List, [], ◌∷◌, ◌++◌, map, length, refl, sym, ap, ◌∙◌, arith}
use Rattle.std.specs.Prelude.{◌==◌}
use Rattle.std.specs.List.{flat_map}
use Rattle.std.specs.Option.{unwrap_or}
use Rattle.std.proofs.lemmas.Bool.Decides.{nat_tests}
use Rattle.sm_tree.specs.Node.{Node, Members, list, object, no_members, member, nodes_of, members_of}
use Rattle.sm_tree.specs.Parts.{pairs_in, tree_named}
use Rattle.sm_tree.specs.View.{nodes_view, members_view}
use Rattle.sm_tree.specs.declared.tree.Tree.{Tree}
use Rattle.sm_model.specs.Properties.{TypeFields, property_forms}
use Rattle.sm_model.specs.Raw.{Raw, RawMembers, no_raw_members, raw_member}
use Rattle.sm_model.specs.declared.kind.Kind.{Kind}
use Rattle.sm_merge.specs.Meaning.{Defined, node_meant, members_meant}
use Rattle.sm_merge.specs.Stated.{is_empty, field_stated, fields_stated, body_of}
use Rattle.sm_merge.specs.steps.Meant.{IsObject, fields_named, pair_list, pairs_meant, raw_pairs_of}

longer : (n : ℕ) → 0 < n → (n == 0) ≡ false
longer n h = grind (arith, nat_tests)

pub list_empty : (ts : List Tree) → (length ts == 0) ≡ is_empty (list (nodes_of (nodes_view ts)))
list_empty [] = refl
list_empty (t ∷ ts) = longer (length (t ∷ ts)) (omega arith)

pub object_empty : (ts : List (List ℕ × Tree)) → (length ts == 0) ≡ is_empty (object (members_of (members_view ts)))
object_empty [] = refl
object_empty (t ∷ ts) = longer (length (t ∷ ts)) (omega arith)

-- the pairs of a body
pairs_behind : (defined : Defined) (ms : RawMembers) → members_meant defined ms ≡ members_of (pairs_meant defined (pair_list ms))
pairs_behind defined no_raw_members = refl
pairs_behind defined (raw_member k n ms) = ap (member k (node_meant defined n)) (pairs_behind defined ms)

body_pairs : (defined : Defined) (n : Raw) → IsObject n
    → unwrap_or (pairs_in (node_meant defined n)) no_members ≡ members_of (pairs_meant defined (raw_pairs_of n))
body_pairs defined n (ms, is) =
    ap (λ m. unwrap_or (pairs_in (node_meant defined m)) no_members) is ∙ pairs_behind defined ms
    ∙ ap (λ m. members_of (pairs_meant defined (raw_pairs_of m))) (sym is)

-- one field after the other
of_fields : {X : Type 0} (field : List ℕ → List X) (fs : TypeFields) → flat_map field (map (λ f. f.0) fs) ≡ flat_map (λ f. field f.0) fs
of_fields field [] = refl
of_fields field (f ∷ fs) = ap (λ xs. field f.0 ++ xs) (of_fields field fs)

pub body_made : (defined : Defined) (kind : Kind) (n : Raw) (names : List (List ℕ)) (fields : List (List ℕ × Node)) → IsObject n
    → names ≡ map (λ f. f.0) (property_forms kind) → fields ≡ fields_named defined kind names (raw_pairs_of n)
    → object (members_of fields) ≡ body_of kind (node_meant defined n)
body_made defined kind n names fields h named e =
    let field : Members → List ℕ → List (List ℕ × Node) = λ ms name. field_stated kind name (tree_named name ms) in
    ap (λ ps. object (members_of ps))
    (e ∙ ap (λ ks. fields_named defined kind ks (raw_pairs_of n)) named
    ∙ of_fields (field (members_of (pairs_meant defined (raw_pairs_of n)))) (property_forms kind)
    ∙ ap (λ ms. fields_stated kind (property_forms kind) ms) (sym (body_pairs defined n h)))
