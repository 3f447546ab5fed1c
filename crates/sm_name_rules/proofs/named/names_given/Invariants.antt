use Rattle.std.proofs.Common.{◌≡◌, ◌≤◌, ℕ, List, drop, length}
use Rattle.sm_tree.specs.Node.{members_of}
use Rattle.sm_tree.specs.Parts.{tree_named}
use Rattle.sm_tree.specs.View.{members_view}
use Rattle.sm_name_rules.specs.steps.Naming.{tree_in}
use Rattle.sm_name_rules.proofs.named.names_given.Given as goal

abbrev pub decreases-loop-left : goal.decreases-loop-left
decreases-loop-left l = l.left

abbrev pub invariant-loop-left : goal.invariant-loop-left
invariant-loop-left l = record {
  left : l.left ≤ length l.pairs;
  told : (key : List ℕ) → tree_in l.given key ≡ tree_named key (members_of (members_view (drop l.left l.pairs)));
}
