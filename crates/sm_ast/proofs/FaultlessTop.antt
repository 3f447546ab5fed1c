-- What the relation says of a whole tree is refused nowhere.
use Rattle.std.proofs.Common.{◌≡◌, ℕ, inl, inr, ◌⊎◌, ◌&&◌, List, [], ◌∷◌, None, refl, ap, subst, ◌∙◌, codes}
use Rattle.sm_tree.specs.Node.{Node, Members, text, no_members, member}
use Rattle.sm_tree.specs.Same.{HasPair, HasDistinctNames, AreDistinct}
use Rattle.sm_model.specs.Said.{Said}
use Rattle.sm_ast.specs.Layout.{smithy_name}
use Rattle.sm_ast.specs.Ast.{ShapePairsSay, TopPairSays, TopPairsSay, Ast}
use Rattle.sm_ast.specs.Faults.{unless, version, names_of, are_there, is_version, members_fault, of_object, pairs_fault, shape_fault}
use Rattle.sm_ast.specs.Faults.{top_fault, ast_fault}
use Rattle.sm_ast.proofs.Judged.{name_pair}
use Rattle.sm_ast.proofs.FaultlessParts.{pairs_pass, object_passes, stands_under, members_pass}
use Rattle.sm_ast.proofs.FaultlessShapes.{shape_no_fault}

shape_at : (ms : Members) (said : List Said) → AreDistinct ms → ShapePairsSay ms said → (k : List ℕ) (n : Node) → HasPair k n ms
    → shape_fault k n ≡ None
shape_at no_members said d says k n has = absurd has
shape_at (member l m ms) said d (s, more, is, says, rest) k n (inl same) =
    ap (λ j. shape_fault j n) same.0 ∙ ap (shape_fault l) same.1 ∙ shape_no_fault l m s d.1 says
shape_at (member l m ms) said d (s, more, is, says, rest) k n (inr has) = shape_at ms more d.2 rest k n has

version_passes : (n : Node) → (n ≡ text (codes "2.0")) ⊎ (n ≡ text (codes "2")) → unless (is_version n) version ≡ None
version_passes n (inl is) = ap (λ m. unless (is_version m) version) is
version_passes n (inr is) = ap (λ m. unless (is_version m) version) is

top_passes : (k : List ℕ) (n : Node) (said : List Said) → HasDistinctNames n → TopPairSays k n said → top_fault k n ≡ None
top_passes k n said d (inl (is, known, none)) = ap (λ j. top_fault j n) is ∙ version_passes n known
top_passes k n said d (inr (inl (is, ms, is_object, says))) =
    ap (λ j. top_fault j n) is ∙ ap (of_object (members_fault [])) is_object
    ∙ members_pass [] ms (λ j has. refl) (subst HasDistinctNames is_object d)
top_passes k n said d (inr (inr (is, ms, is_object, says))) =
    let distinct : AreDistinct ms = subst HasDistinctNames is_object d in
    ap (λ j. top_fault j n) is ∙ ap (of_object (pairs_fault shape_fault [])) is_object
    ∙ pairs_pass shape_fault ms distinct (shape_at ms said distinct says)

top_at : (ms : Members) (said : List Said) → AreDistinct ms → TopPairsSay ms said → (k : List ℕ) (n : Node) → HasPair k n ms
    → top_fault k n ≡ None
top_at no_members said d says k n has = absurd has
top_at (member l m ms) said d (first, more, is, says, rest) k n (inl same) =
    ap (λ j. top_fault j n) same.0 ∙ ap (top_fault l) same.1 ∙ top_passes l m first d.1 says
top_at (member l m ms) said d (first, more, is, says, rest) k n (inr has) = top_at ms more d.2 rest k n has

pub ast_passes : (said : List Said) (n : Node) → Ast said n → ast_fault n ≡ None
ast_passes said n ast =
    let distinct : AreDistinct ast.pairs = subst HasDistinctNames ast.is_object ast.distinct in
    let smithy = name_pair smithy_name ast.pairs ast.has_version in
    ap ast_fault ast.is_object ∙ object_passes top_fault (smithy_name ∷ []) ast.pairs
    (pairs_pass top_fault ast.pairs distinct (top_at ast.pairs said distinct ast.says))
    (ap (λ b. b && are_there [] (names_of ast.pairs)) (stands_under smithy_name smithy.0 ast.pairs distinct smithy.1))
