-- The parts of a tree that is looked into: the text that it is, its entries, its pairs, and what stands under a name.
use Rattle.std.specs.Prelude.{ℕ, List, Option, Some, None, if◌then◌else◌}
use Rattle.std.specs.Str.{bytes_eq}
use Rattle.sm_tree.specs.Node.{Node, Nodes, Members, null, bool, int, number, text, bytes, tag, opaque, list, object}
use Rattle.sm_tree.specs.Node.{no_members, member}

-- the text that a tree is, its entries, its pairs
abbrev pub text_in : Node → Option (List ℕ)
text_in (text t) = Some t
text_in null = None
text_in (bool b) = None
text_in (int z) = None
text_in (number t) = None
text_in (bytes t) = None
text_in (tag k n) = None
text_in (opaque b) = None
text_in (list ns) = None
text_in (object ms) = None

abbrev pub entries_in : Node → Option Nodes
entries_in (list ns) = Some ns
entries_in null = None
entries_in (bool b) = None
entries_in (int z) = None
entries_in (number t) = None
entries_in (text t) = None
entries_in (bytes t) = None
entries_in (tag k n) = None
entries_in (opaque b) = None
entries_in (object ms) = None

abbrev pub pairs_in : Node → Option Members
pairs_in (object ms) = Some ms
pairs_in null = None
pairs_in (bool b) = None
pairs_in (int z) = None
pairs_in (number t) = None
pairs_in (text t) = None
pairs_in (bytes t) = None
pairs_in (tag k n) = None
pairs_in (opaque b) = None
pairs_in (list ns) = None

-- the first tree under a name
abbrev pub tree_named : List ℕ → Members → Option Node
tree_named name no_members = None
tree_named name (member k n ms) = if bytes_eq k name then Some n else tree_named name ms
