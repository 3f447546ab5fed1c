use Rattle.std.proofs.Common.{◌≡◌, ◌++◌, drop}
use Rattle.sm_tree.specs.View.{members_view}
use Rattle.sm_idl.specs.Written.{metadata_lines}
use Rattle.sm_idl.proofs.write.traits.put_metadata.Given as goal

abbrev pub invariant-loop-pair : goal.invariant-loop-pair
invariant-loop-pair l = record {
  written : l.out.items ++ metadata_lines (members_view (drop l.pair-index l.metadata))
      ≡ l.fn.out.items ++ metadata_lines (members_view l.metadata);
}
