-- Pairs that are put one behind the other, and what comes behind them.
use Rattle.std.specs.Prelude.{ℕ, List, [], ◌∷◌}
use Rattle.sm_tree.specs.Node.{Node, Nodes, Members, node, member}

abbrev pub joined : List (List ℕ × Node) → Members → Members
joined [] more = more
joined (p ∷ ps) more = member p.0 p.1 (joined ps more)

abbrev pub entries_joined : List Node → Nodes → Nodes
entries_joined [] more = more
entries_joined (n ∷ ns) more = node n (entries_joined ns more)
