use Rattle.std.proofs.Common.{◌≡◌, drop}
use Rattle.sm_tree.specs.View.{node_of}
use Rattle.sm_select.specs.Picks.{value_within}
use Rattle.sm_select.proofs.values.tree_within.Given as goal

abbrev pub invariant-loop-key : goal.invariant-loop-key
invariant-loop-key l = value_within (drop l.key-index l.keys) (node_of l.within) ≡ value_within l.keys (node_of l.fn.tree)
