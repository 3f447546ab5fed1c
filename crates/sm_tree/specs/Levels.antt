-- How deep a tree nests: lists, objects and tags are levels, also empty ones.
use Rattle.std.specs.Prelude.{ℕ, ◌+◌, max}
use Rattle.sm_tree.specs.Node.{Node, Nodes, Members, null, bool, int, number, text, bytes, tag, opaque, list, object, no_nodes, node}
use Rattle.sm_tree.specs.Node.{no_members, member}

abbrev mutual
  -- the greatest number of levels that are open at one place of the tree
  pub levels : Node → ℕ
  levels null = 0
  levels (bool b) = 0
  levels (int z) = 0
  levels (number t) = 0
  levels (text t) = 0
  levels (bytes t) = 0
  levels (tag k n) = 1 + levels n
  levels (opaque b) = 0
  levels (list ns) = 1 + nodes_levels ns
  levels (object ms) = 1 + members_levels ms

  pub nodes_levels : Nodes → ℕ
  nodes_levels no_nodes = 0
  nodes_levels (node n ns) = max (levels n) (nodes_levels ns)

  pub members_levels : Members → ℕ
  members_levels no_members = 0
  members_levels (member k n ms) = max (levels n) (members_levels ms)
