-- A measure for recursions over trees: each part weighs less than the whole. It isn't the number of nodes: each
-- entry and each pair adds one of its own.
use Rattle.std.specs.Prelude.{ℕ, ◌+◌}
use Rattle.sm_tree.specs.Node.{Node, Nodes, Members, null, bool, int, number, text, bytes, tag, opaque, list, object, no_nodes, node}
use Rattle.sm_tree.specs.Node.{no_members, member}

abbrev mutual
  pub weight : Node → ℕ
  weight null = 1
  weight (bool b) = 1
  weight (int z) = 1
  weight (number t) = 1
  weight (text t) = 1
  weight (bytes t) = 1
  weight (tag k n) = weight n + 1
  weight (opaque b) = 1
  weight (list ns) = nodes_weight ns + 1
  weight (object ms) = members_weight ms + 1

  pub nodes_weight : Nodes → ℕ
  nodes_weight no_nodes = 0
  nodes_weight (node n ns) = weight n + nodes_weight ns + 1

  pub members_weight : Members → ℕ
  members_weight no_members = 0
  members_weight (member k n ms) = weight n + members_weight ms + 1
