-- What node_of gives, variant by variant, for code that makes or reads trees: other crates cite these.
use Rattle.std.proofs.Common.{◌≡◌, ℕ, ℤ, Bool, List, Box, Global, sym, ap, ◌∙◌, rules}
use Rattle.sm_tree.specs.Node.{Node, null, bool, int, number, text, bytes, tag, opaque, list, object, nodes_of, members_of}
use Rattle.sm_tree.specs.View.{tree_step, items_step, pairs_step, node_of, items_view, pairs_view, nodes_view, members_view}
use Rattle.sm_tree.specs.declared.tree.Tree.{Tree}
use Rattle.sm_tree.specs.declared.tree.Items.{Items}
use Rattle.sm_tree.specs.declared.tree.Pairs.{Pairs}
use Rattle.sm_tree.specs.declared.tree.Tree.{the_lemmas}
use Rattle.sm_tree.specs.declared.tree.Tree.TheVariants.{Null, Bool as Boolean, Int, Number, Text, Bytes, Tag, Opaque, List as Array}
use Rattle.sm_tree.specs.declared.tree.Tree.TheVariants.{rolls-List, Object, rolls-Object}
use Rattle.sm_tree.specs.declared.tree.Tree.TheOpen.{Tree-F}
use Rattle.sm_tree.specs.declared.tree.Tree.TheViews.{roll-Tree}
use Rattle.sm_tree.specs.declared.tree.Tree.TheFolds.{fold-roll-Tree, fold-roll-Items, fold-roll-Pairs}

-- the entries and the pairs, in the words for trees that stand by themselves
pub view_items : (v : Items) → items_view v ≡ nodes_view v.items.items
view_items v = fold-roll-Items Node (List Node) (List (List ℕ × Node)) tree_step items_step pairs_step (record { items = v.items })

pub view_pairs : (p : Pairs) → pairs_view p ≡ members_view p.pairs.items
view_pairs p = fold-roll-Pairs Node (List Node) (List (List ℕ × Node)) tree_step items_step pairs_step (record { pairs = p.pairs })

-- each variant
pub node_null : node_of Null ≡ null
node_null = search (rules, the_lemmas)

pub node_bool : (b : Bool) → node_of (Boolean b) ≡ bool b
node_bool b = search (rules, the_lemmas)

pub node_int : (z : ℤ) → node_of (Int z) ≡ int z
node_int z = search (rules, the_lemmas)

pub node_number : (t : List ℕ) → node_of (Number t) ≡ number t
node_number t = search (rules, the_lemmas)

pub node_text : (t : List ℕ) → node_of (Text t) ≡ text t
node_text t = search (rules, the_lemmas)

pub node_bytes : (t : List ℕ) → node_of (Bytes t) ≡ bytes t
node_bytes t = search (rules, the_lemmas)

pub node_tag : (k : ℕ) (t : Box Tree Global) → node_of (Tag k t) ≡ tag k (node_of t.value)
node_tag k t = search (rules, the_lemmas)

pub node_opaque : (b : ℕ) → node_of (Opaque b) ≡ opaque b
node_opaque b = search (rules, the_lemmas)

pub node_list : (v : Items) → node_of (Array v) ≡ list (nodes_of (nodes_view v.items.items))
node_list v = search (rules, the_lemmas)

pub node_object : (p : Pairs) → node_of (Object p) ≡ object (members_of (members_view p.pairs.items))
node_object p = ap node_of (sym (rolls-Object p)) ∙ fold-roll-Tree Node (List Node) (List (List ℕ × Node)) tree_step items_step pairs_step _
    ∙ ap (λ m. object (members_of m)) (view_pairs p)

-- the same in the words of Items and Pairs, which show no field
pub node_list_items : (v : Items) → node_of (Array v) ≡ list (nodes_of (items_view v))
node_list_items v = node_list v ∙ ap (λ ns. list (nodes_of ns)) (sym (view_items v))

pub node_object_pairs : (p : Pairs) → node_of (Object p) ≡ object (members_of (pairs_view p))
node_object_pairs p = node_object p ∙ ap (λ ms. object (members_of ms)) (sym (view_pairs p))

-- the same where a goal shows the value as roll-Tree of its layer
pub rolled_list : (v : Items) → node_of (roll-Tree (Tree-F.List v)) ≡ list (nodes_of (items_view v))
rolled_list v = ap node_of (rolls-List v) ∙ node_list_items v

pub rolled_object : (p : Pairs) → node_of (roll-Tree (Tree-F.Object p)) ≡ object (members_of (pairs_view p))
rolled_object p = ap node_of (rolls-Object p) ∙ node_object_pairs p
