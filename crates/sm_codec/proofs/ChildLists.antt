-- The entries of a list and the pairs of an object as lists of trees, and what stands under a name among them.
use Rattle.std.proofs.Common.{◌≡◌, ℕ, Bool, true, false, cond, List, [], ◌∷◌, refl, ap}
use Rattle.std.specs.Str.{bytes_eq}
use Rattle.sm_tree.specs.Node.{Node, Nodes, Members, null, bool, int, number, text, bytes, tag, opaque, list, object, no_nodes, node}
use Rattle.sm_tree.specs.Node.{no_members, member, nodes_of, members_of}
use Rattle.sm_codec.specs.Codec.{Codec}
use Rattle.sm_codec.specs.Named.{named, names_of, is_null}
use Rattle.sm_codec.specs.Readings.{Child, child_of, children, named_children, children_of, named_children_of}

abbrev pub each_node : Nodes → List Node
each_node no_nodes = []
each_node (node n ns) = n ∷ each_node ns

abbrev pub each_pair : Members → List (List ℕ × Node)
each_pair no_members = []
each_pair (member k n ms) = (k, n) ∷ each_pair ms

pub nodes_back : (ns : Nodes) → nodes_of (each_node ns) ≡ ns
nodes_back no_nodes = refl
nodes_back (node n ns) = ap (node n) (nodes_back ns)

pub members_back : (ms : Members) → members_of (each_pair ms) ≡ ms
members_back no_members = refl
members_back (member k n ms) = ap (member k n) (members_back ms)

-- the children of a list and of an object are those of their entries and pairs
pub entries_are : (c : Codec) (ns : Nodes) → children c ns ≡ children_of c (each_node ns)
entries_are c no_nodes = refl
entries_are c (node n ns) = ap (λ ks. child_of c n ∷ ks) (entries_are c ns)

pub pairs_are : (c : Codec) (ms : Members) → named_children c ms ≡ named_children_of c (each_pair ms)
pairs_are c no_members = refl
pairs_are c (member k n ms) = one_more (named_children c ms) (named_children_of c (each_pair ms)) (pairs_are c ms)
  where
    one_more : (xs ys : List (List ℕ × Child)) → xs ≡ ys → (k, child_of c n) ∷ xs ≡ (k, child_of c n) ∷ ys
    one_more xs ys e = cc

pub nodes_each : (ns : List Node) → each_node (nodes_of ns) ≡ ns
nodes_each [] = refl
nodes_each (n ∷ ns) = ap (λ ms. n ∷ ms) (nodes_each ns)

pub pairs_each : (ps : List (List ℕ × Node)) → each_pair (members_of ps) ≡ ps
pairs_each [] = refl
pairs_each (p ∷ ps) = ap (λ qs. p ∷ qs) (pairs_each ps)

-- the children under a name are those of the trees under it
named_if : (c : Codec) (b : Bool) (n : Node) (ns : List Node) (cs : List Child) → cs ≡ children_of c ns
    → cond b (child_of c n ∷ cs) cs ≡ children_of c (cond b (n ∷ ns) ns)
named_if c true n ns cs h = ap (λ ks. child_of c n ∷ ks) h
named_if c false n ns cs h = h

pub named_are : (c : Codec) (name : List ℕ) (ps : List (List ℕ × Node))
    → named name (named_children_of c ps) ≡ children_of c (named name ps)
named_are c name [] = refl
named_are c name (p ∷ ps) =
    named_if c (bytes_eq p.0 name) p.1 (named name ps) (named name (named_children_of c ps)) (named_are c name ps)

pub names_are : (c : Codec) (ps : List (List ℕ × Node)) → names_of (named_children_of c ps) ≡ names_of ps
names_are c [] = refl
names_are c (p ∷ ps) = ap (λ ks. p.0 ∷ ks) (names_are c ps)

-- null is the one tree that is null
pub null_is : (n : Node) → is_null n ≡ true → n ≡ null
null_is null h = refl
null_is (bool b) h = absurd cc
null_is (int z) h = absurd cc
null_is (number u) h = absurd cc
null_is (text u) h = absurd cc
null_is (bytes u) h = absurd cc
null_is (tag k n) h = absurd cc
null_is (opaque b) h = absurd cc
null_is (list ns) h = absurd cc
null_is (object ms) h = absurd cc
