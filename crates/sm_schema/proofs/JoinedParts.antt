-- Pairs and entries, one behind the other.
use Rattle.std.proofs.Common.{◌≡◌, ℕ, List, [], ◌∷◌, ◌++◌, refl, ap}
use Rattle.sm_tree.specs.Node.{Node, Nodes, Members, list, object, no_nodes, node, no_members, member, nodes_of, members_of}
use Rattle.sm_tree.specs.View.{node_of, nodes_view, members_view}
use Rattle.sm_tree.specs.declared.tree.Tree.{Tree}
use Rattle.sm_schema.specs.steps.Joined.{joined, entries_joined}

pub joined_last : (ps : List (List ℕ × Node)) (k : List ℕ) (n : Node) (more : Members)
    → joined (ps ++ (k, n) ∷ []) more ≡ joined ps (member k n more)
joined_last [] k n more = refl
joined_last (p ∷ ps) k n more = ap (member p.0 p.1) (joined_last ps k n more)

pub joined_all : (ps : List (List ℕ × Node)) → members_of ps ≡ joined ps no_members
joined_all [] = refl
joined_all (p ∷ ps) = ap (member p.0 p.1) (joined_all ps)

pub entries_last : (ns : List Node) (n : Node) (more : Nodes) → entries_joined (ns ++ n ∷ []) more ≡ entries_joined ns (node n more)
entries_last [] n more = refl
entries_last (m ∷ ns) n more = ap (node m) (entries_last ns n more)

pub entries_all : (ns : List Node) → nodes_of ns ≡ entries_joined ns no_nodes
entries_all [] = refl
entries_all (m ∷ ns) = ap (node m) (entries_all ns)

-- the same of trees of the code
pub pair_put : (ps : List (List ℕ × Tree)) (x : List ℕ × Tree) (more : Members)
    → joined (members_view (ps ++ x ∷ [])) more ≡ joined (members_view ps) (member x.0 (node_of x.1) more)
pair_put [] x more = refl
pair_put (p ∷ ps) x more = ap (member p.0 (node_of p.1)) (pair_put ps x more)

pub entry_put : (ts : List Tree) (t : Tree) (more : Nodes)
    → entries_joined (nodes_view (ts ++ t ∷ [])) more ≡ entries_joined (nodes_view ts) (node (node_of t) more)
entry_put [] t more = refl
entry_put (s ∷ ts) t more = ap (node (node_of s)) (entry_put ts t more)

pub object_joined : (ps : List (List ℕ × Tree)) → object (members_of (members_view ps)) ≡ object (joined (members_view ps) no_members)
object_joined ps = ap object (joined_all (members_view ps))

pub list_joined : (ts : List Tree) → list (nodes_of (nodes_view ts)) ≡ list (entries_joined (nodes_view ts) no_nodes)
list_joined ts = ap list (entries_all (nodes_view ts))
