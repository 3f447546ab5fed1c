-- How much a tree counts: each node is one, and so is each byte of a text, of the text of a number and of a name.
use Rattle.std.specs.Prelude.{◌≡◌, ◌+◌, ℕ, length}
use Rattle.sm_tree.specs.Node.{Node, Nodes, Members, null, bool, int, number, text, bytes, tag, opaque, list, object, no_nodes, node}
use Rattle.sm_tree.specs.Node.{no_members, member}
use Rattle.sm_tree.specs.Same.{HasDistinctNames, Same}

abbrev mutual
  pub node_size : Node → ℕ
  node_size null = 1
  node_size (bool b) = 1
  node_size (int z) = 1
  node_size (number t) = 1 + length t
  node_size (text t) = 1 + length t
  node_size (bytes t) = 1 + length t
  node_size (tag k n) = 1 + node_size n
  node_size (opaque b) = 1
  node_size (list ns) = 1 + nodes_size ns
  node_size (object ms) = 1 + members_size ms

  pub nodes_size : Nodes → ℕ
  nodes_size no_nodes = 0
  nodes_size (node n ns) = node_size n + nodes_size ns

  pub members_size : Members → ℕ
  members_size no_members = 0
  members_size (member k n ms) = length k + node_size n + members_size ms

-- trees that are the same count the same
abbrev pub SameCountsTheSame : Type 0
SameCountsTheSame = (n m : Node) → HasDistinctNames n → HasDistinctNames m → Same n m → node_size n ≡ node_size m
