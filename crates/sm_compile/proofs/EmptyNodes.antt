-- Nodes without entries and without pairs.
use Rattle.std.proofs.Common.{◌≡◌, ℕ, Bool, true, false, List, [], ◌∷◌, length, refl, sym, ap, ◌∙◌, arith}
use Rattle.std.specs.Prelude.{◌↔◌}
use Rattle.sm_tree.specs.Node.{list, members_of, nodes_of, object}
use Rattle.sm_tree.specs.View.{items_view, members_view, node_of, nodes_view, pairs_view}
use Rattle.sm_tree.specs.declared.Items.{Items}
use Rattle.sm_tree.specs.declared.Pairs.{Pairs}
use Rattle.sm_tree.specs.declared.Tree.{Tree}
use Rattle.sm_tree.specs.declared.Tree.TheVariants.{List as Array, Object}
use Rattle.sm_tree.proofs.Views.{node_list_items, node_object_pairs}
use Rattle.sm_compile.specs.Said.{is_empty_node}

must_be : (b : Bool) → (b ≡ true → ⊥) → b ≡ false
must_be true h = absurd (h refl)
must_be false h = refl

pub empty_list : (t : Tree) (v : Items) (ts : List Tree) (b : Bool) → t ≡ Array v → nodes_view ts ≡ items_view v
    → (b ≡ true) ↔ (length ts ≡ 0) → b ≡ is_empty_node (node_of t)
empty_list t v ts b is same told =
    by ts told ∙ ap (λ ns. is_empty_node (list (nodes_of ns))) same ∙ sym (ap is_empty_node (ap node_of is ∙ node_list_items v))
  where
    by : (ts : List Tree) → (b ≡ true) ↔ (length ts ≡ 0) → b ≡ is_empty_node (list (nodes_of (nodes_view ts)))
    by [] told = told.1 refl
    by (x ∷ xs) told = must_be b (λ h. let long = told.0 h in absurd (omega (arith, long)))

pub empty_object : (t : Tree) (v : Pairs) (ps : List (List ℕ × Tree)) (b : Bool) → t ≡ Object v → members_view ps ≡ pairs_view v
    → (b ≡ true) ↔ (length ps ≡ 0) → b ≡ is_empty_node (node_of t)
empty_object t v ps b is same told =
    by ps told ∙ ap (λ ns. is_empty_node (object (members_of ns))) same ∙ sym (ap is_empty_node (ap node_of is ∙ node_object_pairs v))
  where
    by : (ps : List (List ℕ × Tree)) → (b ≡ true) ↔ (length ps ≡ 0) → b ≡ is_empty_node (object (members_of (members_view ps)))
    by [] told = told.1 refl
    by (x ∷ xs) told = must_be b (λ h. let long = told.0 h in absurd (omega (arith, long)))
