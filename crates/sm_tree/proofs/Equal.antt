-- What `==` of trees says: that they stand for one node.
use Rattle.std.proofs.Common.{◌≡◌, ℕ, zero, suc, ℤ, true≢false, ◌+◌, ◌<◌, Bool, true, false, ◌&&◌, List, [], ◌∷◌, Box, Global, IsTrue}
use Rattle.std.proofs.Common.{◌↔◌, refl, sym, ap, ◌∙◌, subst, arith, rules}
use Rattle.std.specs.Prelude.{Decides}
use Rattle.std.specs.Cmp.{booleans_Decides, unsigned_Decides, signed_Decides}
use Rattle.std.specs.Cmp.Lexicographic.{pointwise}
use Rattle.std.proofs.lemmas.Bool.{and_from, and_parts}
use Rattle.std.proofs.lemmas.Slice.Eq.{slice_eq-Decides}
use Rattle.std.specs.Prelude.{nat_eq}
use Rattle.sm_tree.specs.Node.{Node, Nodes, Members, null, bool, int, number, text, bytes, tag, opaque, list, object, no_nodes, node}
use Rattle.sm_tree.specs.Node.{no_members, member, nodes_of, members_of}
use Rattle.sm_tree.specs.View.{node_of, nodes_view, members_view}
use Rattle.sm_tree.specs.steps.Weight.{weight, nodes_weight, members_weight}
use Rattle.sm_tree.specs.declared.tree.Tree.{Tree, out-Tree, roll-out-Tree, out-roll-Tree, the_lemmas}
use Rattle.sm_tree.specs.declared.tree.Items.{Items}
use Rattle.sm_tree.specs.declared.tree.Pairs.{Pairs}
use Rattle.sm_tree.specs.declared.tree.Tree.TheOpen.{Tree-F}
use denote.Hole.Compared.{compared_is}
use Rattle.sm_tree.specs.declared.tree.Tree.TheBlock.{the_members, the_family, the_depth, member-Items, member-Pairs}
use Rattle.sm_tree.specs.declared.tree.Tree.TheViews.{roll-Tree}
use Rattle.sm_tree.specs.contracts.tree.TreePartialEq.TheImpl as trees
use Rattle.sm_tree.specs.contracts.tree.TreePartialEq.TheImpl.Laws as tree
use Rattle.sm_tree.proofs.SameOrder.{clash}
use Rattle.sm_tree.proofs.Views.{view_items, view_pairs, rolled_list, rolled_object}

-- the test that `==` is
abbrev pub equal : Tree → Tree → Bool
equal = trees.ghosts.eq

-- a node from one layer of a tree
abbrev layer : Tree-F Tree Items Pairs → Node
layer Tree-F.Null = null
layer (Tree-F.Bool b) = bool b
layer (Tree-F.Int z) = int z
layer (Tree-F.Number t) = number t
layer (Tree-F.Text t) = text t
layer (Tree-F.Bytes t) = bytes t
layer (Tree-F.Tag k t) = tag k (node_of t.value)
layer (Tree-F.Opaque b) = opaque b
layer (Tree-F.List v) = list (nodes_of (nodes_view v.items.items))
layer (Tree-F.Object p) = object (members_of (members_view p.pairs.items))

node_rolled : (d : Tree-F Tree Items Pairs) → node_of (roll-Tree d) ≡ layer d
node_rolled Tree-F.Null = search (rules, the_lemmas)
node_rolled (Tree-F.Bool b) = search (rules, the_lemmas)
node_rolled (Tree-F.Int z) = search (rules, the_lemmas)
node_rolled (Tree-F.Number t) = search (rules, the_lemmas)
node_rolled (Tree-F.Text t) = search (rules, the_lemmas)
node_rolled (Tree-F.Bytes t) = search (rules, the_lemmas)
node_rolled (Tree-F.Tag k t) = search (rules, the_lemmas)
node_rolled (Tree-F.Opaque b) = search (rules, the_lemmas)
node_rolled (Tree-F.List v) = rolled_list v ∙ ap (λ ns. list (nodes_of ns)) (view_items v)
node_rolled (Tree-F.Object p) = rolled_object p ∙ ap (λ ms. object (members_of ms)) (view_pairs p)

-- what a node is, as a number
abbrev kind : Node → ℕ
kind null = 0
kind (bool b) = 1
kind (int z) = 2
kind (number t) = 3
kind (text t) = 4
kind (bytes t) = 5
kind (tag k n) = 6
kind (opaque b) = 7
kind (list ns) = 8
kind (object ms) = 9

-- what a node holds, if it is of that kind
abbrev bool_in : Node → Bool
bool_in (bool b) = b
bool_in n = false

abbrev int_in : ℤ → Node → ℤ
int_in d (int z) = z
int_in d n = d

abbrev text_in : Node → List ℕ
text_in (number t) = t
text_in (text t) = t
text_in (bytes t) = t
text_in n = []

abbrev count_in : Node → ℕ
count_in (tag k n) = k
count_in (opaque b) = b
count_in n = 0

abbrev content_in : Node → Node
content_in (tag k n) = n
content_in n = null

abbrev entries_in : Node → Nodes
entries_in (list ns) = ns
entries_in n = no_nodes

abbrev pairs_in : Node → Members
pairs_in (object ms) = ms
pairs_in n = no_members

abbrev size : Nodes → ℕ
size no_nodes = 0
size (node n ns) = 1

abbrev head : Nodes → Node
head no_nodes = null
head (node n ns) = n

abbrev tail : Nodes → Nodes
tail no_nodes = no_nodes
tail (node n ns) = ns

abbrev pairs_size : Members → ℕ
pairs_size no_members = 0
pairs_size (member k n ms) = 1

abbrev name : Members → List ℕ
name no_members = []
name (member k n ms) = k

abbrev value : Members → Node
value no_members = null
value (member k n ms) = n

abbrev others : Members → Members
others no_members = no_members
others (member k n ms) = ms

-- a test that decides for trees that are lighter than k
abbrev DecidesBelow : ℕ → Type 0
DecidesBelow k = (a b : Tree) → weight (node_of a) < k → Decides (equal a b) (node_of a ≡ node_of b)

entries_decide : (k : ℕ) → DecidesBelow k → (ts us : List Tree) → nodes_weight (nodes_of (nodes_view ts)) < k
    → Decides (pointwise equal ts us) (nodes_of (nodes_view ts) ≡ nodes_of (nodes_view us))
entries_decide k below [] [] h = (λ e. refl, λ e. refl)
entries_decide k below [] (u ∷ us) h = (λ e. absurd (true≢false (sym e)), λ e. let bad : 0 ≡ 1 = ap size e in absurd (omega (arith, bad)))
entries_decide k below (t ∷ ts) [] h = (λ e. absurd (true≢false (sym e)), λ e. let bad : 1 ≡ 0 = ap size e in absurd (omega (arith, bad)))
entries_decide k below (t ∷ ts) (u ∷ us) h =
    let weighs : weight (node_of t) + nodes_weight (nodes_of (nodes_view ts)) + 1 < k = h in
    let one = below t u (omega (arith, weighs)) in
    let more = entries_decide k below ts us (omega (arith, weighs)) in (
      λ e. ap (λ n. node n (nodes_of (nodes_view ts))) (one.0 (and_parts _ _ e).0) ∙ ap (node (node_of u)) (more.0 (and_parts _ _ e).1),
      λ e. and_from _ _ (one.1 (ap head e)) (more.1 (ap tail e)),
    )

-- pairs are compared by name and tree
abbrev pair_equal : List ℕ × Tree → List ℕ × Tree → Bool
pair_equal p q = pointwise nat_eq p.0 q.0 && equal p.1 q.1

pairs_decide : (k : ℕ) → DecidesBelow k → (ps qs : List (List ℕ × Tree)) → members_weight (members_of (members_view ps)) < k
    → Decides (pointwise pair_equal ps qs) (members_of (members_view ps) ≡ members_of (members_view qs))
pairs_decide k below [] [] h = (λ e. refl, λ e. refl)
pairs_decide k below [] (q ∷ qs) h = (
  λ e. absurd (true≢false (sym e)),
  λ e. let bad : 0 ≡ 1 = ap pairs_size e in absurd
      (omega (arith, bad)),
)
pairs_decide k below (p ∷ ps) [] h = (
  λ e. absurd (true≢false (sym e)),
  λ e. let bad : 1 ≡ 0 = ap pairs_size e in absurd
      (omega (arith, bad)),
)
pairs_decide k below (p ∷ ps) (q ∷ qs) h =
    let names = slice_eq-Decides unsigned_Decides p.0 q.0 (pointwise nat_eq p.0 q.0) refl in
    let weighs : weight (node_of p.1) + members_weight (members_of (members_view ps)) + 1 < k = h in
    let one = below p.1 q.1 (omega (arith, weighs)) in
    let more = pairs_decide k below ps qs (omega (arith, weighs)) in (
      λ e. let here = and_parts (pair_equal p q) (pointwise pair_equal ps qs) e in
          let parts = and_parts (pointwise nat_eq p.0 q.0) (equal p.1 q.1) here.0 in
          ap (λ t. member t (node_of p.1) (members_of (members_view ps))) (names.0 parts.0)
          ∙ ap (λ n. member q.0 n (members_of (members_view ps))) (one.0 parts.1)
          ∙ ap (member q.0 (node_of q.1)) (more.0 here.1),
      λ e. and_from (pair_equal p q) (pointwise pair_equal ps qs)
          (and_from (pointwise nat_eq p.0 q.0) (equal p.1 q.1) (names.1 (ap name e)) (one.1 (ap value e))) (more.1 (ap others e)),
    )

texts_decide : (s t : List ℕ) → Decides (pointwise nat_eq s t) (s ≡ t)
texts_decide s t = slice_eq-Decides unsigned_Decides s t (pointwise nat_eq s t) refl

-- layer by layer
bools_decide : (b c : Bool) → Decides (tree.unfolded (roll-Tree (Tree-F.Bool b)) (roll-Tree (Tree-F.Bool c))) (bool b ≡ bool c)
unfolding out-Tree denote.Hole.Carrier.out roll-Tree denote.Hole.Carrier.roll
bools_decide b c = (λ t. ap bool ((booleans_Decides b c).0 t), λ p. (booleans_Decides b c).1 (ap bool_in p))

ints_decide : (y z : ℤ) → Decides (tree.unfolded (roll-Tree (Tree-F.Int y)) (roll-Tree (Tree-F.Int z))) (int y ≡ int z)
unfolding out-Tree denote.Hole.Carrier.out roll-Tree denote.Hole.Carrier.roll
ints_decide y z = (λ t. ap int ((signed_Decides y z).0 t), λ p. (signed_Decides y z).1 (ap (int_in y) p))

numbers_decide : (s u : List ℕ) → Decides (tree.unfolded (roll-Tree (Tree-F.Number s)) (roll-Tree (Tree-F.Number u))) (number s ≡ number u)
unfolding out-Tree denote.Hole.Carrier.out roll-Tree denote.Hole.Carrier.roll
numbers_decide s u = (λ t. ap number ((texts_decide s u).0 t), λ p. (texts_decide s u).1 (ap text_in p))

letters_decide : (s u : List ℕ) → Decides (tree.unfolded (roll-Tree (Tree-F.Text s)) (roll-Tree (Tree-F.Text u))) (text s ≡ text u)
unfolding out-Tree denote.Hole.Carrier.out roll-Tree denote.Hole.Carrier.roll
letters_decide s u = (λ t. ap text ((texts_decide s u).0 t), λ p. (texts_decide s u).1 (ap text_in p))

strings_decide : (s u : List ℕ) → Decides (tree.unfolded (roll-Tree (Tree-F.Bytes s)) (roll-Tree (Tree-F.Bytes u))) (bytes s ≡ bytes u)
unfolding out-Tree denote.Hole.Carrier.out roll-Tree denote.Hole.Carrier.roll
strings_decide s u = (λ t. ap bytes ((texts_decide s u).0 t), λ p. (texts_decide s u).1 (ap text_in p))

tags_decide : (k : ℕ) → DecidesBelow k → (j l : ℕ) (s u : Box Tree Global) → weight (node_of s.value) < k
    → Decides (tree.unfolded (roll-Tree (Tree-F.Tag j s)) (roll-Tree (Tree-F.Tag l u))) (tag j (node_of s.value) ≡ tag l (node_of u.value))
unfolding out-Tree denote.Hole.Carrier.out roll-Tree denote.Hole.Carrier.roll
tags_decide k below j l s u h =
    let inside = below s.value u.value h in (
      λ t. let parts = and_parts (nat_eq j l) (equal s.value u.value) t in
          ap (λ i. tag i (node_of s.value)) ((unsigned_Decides j l).0 parts.0) ∙ ap (tag l) (inside.0 parts.1),
      λ p. and_from (nat_eq j l) (equal s.value u.value) ((unsigned_Decides j l).1 (ap count_in p)) (inside.1 (ap content_in p)),
    )

bytes_decide : (b c : ℕ) → Decides (tree.unfolded (roll-Tree (Tree-F.Opaque b)) (roll-Tree (Tree-F.Opaque c))) (opaque b ≡ opaque c)
unfolding out-Tree denote.Hole.Carrier.out roll-Tree denote.Hole.Carrier.roll
bytes_decide b c = (λ t. ap opaque ((unsigned_Decides b c).0 t), λ p. (unsigned_Decides b c).1 (ap count_in p))

-- what a layer holds; the first argument where it is of another kind
abbrev items_in : Items → Tree-F Tree Items Pairs → Items
items_in v (Tree-F.List w) = w
items_in v d = v

abbrev object_in : Pairs → Tree-F Tree Items Pairs → Pairs
object_in v (Tree-F.Object w) = w
object_in v d = v

lists_equal : (v w : Items) → tree.unfolded (roll-Tree (Tree-F.List v))
    (roll-Tree (Tree-F.List w)) ≡ pointwise equal v.items.items w.items.items
unfolding out-Tree denote.Hole.Carrier.out roll-Tree denote.Hole.Carrier.roll
lists_equal v w =
    ap (λ d. tree.family member-Items (items_in v d) (items_in w (out-Tree (roll-Tree (Tree-F.List w))))) (out-roll-Tree (Tree-F.List v))
    ∙ ap (λ d. tree.family member-Items v (items_in w d)) (out-roll-Tree (Tree-F.List w))
    ∙ compared_is the_members the_family the_depth Bool true trees.the_step tree.local member-Items v w

objects_equal : (v w : Pairs) → tree.unfolded (roll-Tree (Tree-F.Object v))
    (roll-Tree (Tree-F.Object w)) ≡ pointwise pair_equal v.pairs.items w.pairs.items
unfolding out-Tree denote.Hole.Carrier.out roll-Tree denote.Hole.Carrier.roll
objects_equal v w =
    ap (λ d. tree.family member-Pairs (object_in v d) (object_in w (out-Tree (roll-Tree (Tree-F.Object w)))))
    (out-roll-Tree (Tree-F.Object v))
    ∙ ap (λ d. tree.family member-Pairs v (object_in w d)) (out-roll-Tree (Tree-F.Object w))
    ∙ compared_is the_members the_family the_depth Bool true trees.the_step tree.local member-Pairs v w

lists_decide : (k : ℕ) → DecidesBelow k → (v w : Items) → nodes_weight (nodes_of (nodes_view v.items.items)) < k
    → Decides (tree.unfolded (roll-Tree (Tree-F.List v)) (roll-Tree (Tree-F.List w)))
    (list (nodes_of (nodes_view v.items.items)) ≡ list (nodes_of (nodes_view w.items.items)))
unfolding out-Tree denote.Hole.Carrier.out roll-Tree denote.Hole.Carrier.roll
lists_decide k below v w h =
    let inside = entries_decide k below v.items.items w.items.items h in
    (λ t. ap list (inside.0 (sym (lists_equal v w) ∙ t)), λ p. lists_equal v w ∙ inside.1 (ap entries_in p))

objects_decide : (k : ℕ) → DecidesBelow k → (v w : Pairs) → members_weight (members_of (members_view v.pairs.items)) < k
    → Decides (tree.unfolded (roll-Tree (Tree-F.Object v)) (roll-Tree (Tree-F.Object w)))
    (object (members_of (members_view v.pairs.items)) ≡ object (members_of (members_view w.pairs.items)))
unfolding out-Tree denote.Hole.Carrier.out roll-Tree denote.Hole.Carrier.roll
objects_decide k below v w h =
    let inside = pairs_decide k below v.pairs.items w.pairs.items h in
    (λ t. ap object (inside.0 (sym (objects_equal v w) ∙ t)), λ p. objects_equal v w ∙ inside.1 (ap pairs_in p))

layers_decide : (k : ℕ) → DecidesBelow k → (d e : Tree-F Tree Items Pairs) → weight (layer d) < k + 1
    → Decides (tree.unfolded (roll-Tree d) (roll-Tree e)) (layer d ≡ layer e)
unfolding out-Tree denote.Hole.Carrier.out roll-Tree denote.Hole.Carrier.roll
layers_decide k below Tree-F.Null Tree-F.Null h = (λ t. refl, λ p. refl)
layers_decide k below (Tree-F.Bool b) (Tree-F.Bool c) h = bools_decide b c
layers_decide k below (Tree-F.Int y) (Tree-F.Int z) h = ints_decide y z
layers_decide k below (Tree-F.Number s) (Tree-F.Number u) h = numbers_decide s u
layers_decide k below (Tree-F.Text s) (Tree-F.Text u) h = letters_decide s u
layers_decide k below (Tree-F.Bytes s) (Tree-F.Bytes u) h = strings_decide s u
layers_decide k below (Tree-F.Tag j s) (Tree-F.Tag l u) h =
    let weighs : weight (node_of s.value) + 1 < k + 1 = h in
    tags_decide k below j l s u (omega (arith, weighs))
layers_decide k below (Tree-F.Opaque b) (Tree-F.Opaque c) h = bytes_decide b c
layers_decide k below (Tree-F.List v) (Tree-F.List w) h =
    let weighs : nodes_weight (nodes_of (nodes_view v.items.items)) + 1 < k + 1 = h in
    lists_decide k below v w (omega (arith, weighs))
layers_decide k below (Tree-F.Object v) (Tree-F.Object w) h =
    let weighs : members_weight (members_of (members_view v.pairs.items)) + 1 < k + 1 = h in
    objects_decide k below v w (omega (arith, weighs))
layers_decide k below d e h = (λ t. absurd (true≢false (sym t)), λ p. absurd (clash (kind (layer d)) (kind (layer e)) refl (ap kind p)))

-- the two values rolled from their layers
rolled_decide : (k : ℕ) → DecidesBelow k → (d e : Tree-F Tree Items Pairs) → weight (node_of (roll-Tree d)) < k + 1
    → Decides (equal (roll-Tree d) (roll-Tree e)) (node_of (roll-Tree d) ≡ node_of (roll-Tree e))
rolled_decide k below d e h =
    let inside = layers_decide k below d e (subst (λ n. weight n < k + 1) (node_rolled d) h) in (
      λ t. node_rolled d ∙ inside.0 (sym (tree.is (roll-Tree d) (roll-Tree e)) ∙ t) ∙ sym (node_rolled e),
      λ p. tree.is (roll-Tree d) (roll-Tree e) ∙ inside.1 (sym (node_rolled d) ∙ p ∙ node_rolled e),
    )

decided : (k : ℕ) → DecidesBelow k
decided zero a b h = absurd (omega (arith, h))
decided (suc k) a b h =
    let whole = rolled_decide k (λ c d i. decided k c d i) (out-Tree a) (out-Tree b)
    (subst (λ t. weight (node_of t) < k + 1) (sym (roll-out-Tree a)) (omega (arith, h))) in
    subst (λ t. Decides (equal a t) (node_of a ≡ node_of t)) (roll-out-Tree b)
    (subst (λ t. Decides (equal t (roll-Tree (out-Tree b))) (node_of t ≡ node_of (roll-Tree (out-Tree b)))) (roll-out-Tree a) whole)

pub equal_decides : (a b : Tree) → Decides (equal a b) (node_of a ≡ node_of b)
equal_decides a b = decided (weight (node_of a) + 1) a b (omega arith)

pub equal_is : (a b : Tree) → IsTrue (equal a b) ↔ (node_of a ≡ node_of b)
equal_is a b = equal_decides a b

-- the tests that `==` of texts and of byte strings is
pub bytes_equal_is : (s t : List ℕ) → IsTrue (pointwise nat_eq s t) ↔ (s ≡ t)
bytes_equal_is s t = texts_decide s t
