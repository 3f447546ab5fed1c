use Rattle.std.proofs.Common.{◌≡◌, length}
use Rattle.sm_tree.specs.View.{node_of}
use Rattle.sm_tree.specs.Building.{tagged}
use Rattle.sm_tree.proofs.build.in_tags.Given as goal

abbrev pub invariant-loop-number : goal.invariant-loop-number
invariant-loop-number l = tagged l.tags.items (node_of l.tree) ≡ tagged l.fn.tags.items (node_of l.fn.tree)

abbrev pub decreases-loop-number : goal.decreases-loop-number
decreases-loop-number l = length l.tags.items
