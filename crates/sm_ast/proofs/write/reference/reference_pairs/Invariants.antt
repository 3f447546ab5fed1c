use Rattle.std.proofs.Common.{◌≡◌, ◌++◌, drop}
use Rattle.sm_tree.specs.Node.{members_of}
use Rattle.sm_tree.specs.View.{members_view}
use Rattle.sm_ast.specs.Written.{written_pairs}
use Rattle.sm_ast.proofs.write.reference.reference_pairs.Given as goal

abbrev pub invariant-loop-pair : goal.invariant-loop-pair
invariant-loop-pair l = record {
  written : members_view l.pairs.items ++ written_pairs (members_of (members_view (drop l.pair-index l.ids)))
      ≡ written_pairs (members_of (members_view l.ids));
}
