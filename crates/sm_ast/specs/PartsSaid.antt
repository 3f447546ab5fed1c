-- The text, the entries and the pairs that a tree says: those that it is, or none.
use Rattle.std.specs.Prelude.{ℕ, List, [], Option, Some, None}
use Rattle.sm_tree.specs.Node.{Node, Nodes, Members, no_nodes, no_members}
use Rattle.sm_tree.specs.Parts.{text_in, entries_in, pairs_in}

abbrev pub text_or_empty : Option (List ℕ) → List ℕ
text_or_empty None = []
text_or_empty (Some t) = t

abbrev pub entries_or_none : Option Nodes → Nodes
entries_or_none None = no_nodes
entries_or_none (Some ns) = ns

abbrev pub pairs_or_none : Option Members → Members
pairs_or_none None = no_members
pairs_or_none (Some ms) = ms

abbrev pub text_said : Node → List ℕ
text_said n = text_or_empty (text_in n)

abbrev pub entries_said : Node → Nodes
entries_said n = entries_or_none (entries_in n)

abbrev pub pairs_said : Node → Members
pairs_said n = pairs_or_none (pairs_in n)
