use Rattle.std.proofs.Common.{◌≡◌, drop}
use Rattle.sm_tree.specs.Node.{members_of}
use Rattle.sm_tree.specs.View.{members_view}
use Rattle.sm_tree.specs.Parts.{tree_named}
use Rattle.sm_tree.proofs.part.tree_under.Given as goal

abbrev pub invariant-loop-pair : goal.invariant-loop-pair
invariant-loop-pair l =
    tree_named l.name (members_of (members_view (drop l.pair-index l.pairs))) ≡ tree_named l.name (members_of (members_view l.pairs))
