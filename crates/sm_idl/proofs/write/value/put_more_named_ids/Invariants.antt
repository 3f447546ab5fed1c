use Rattle.std.proofs.Common.{◌≡◌, ◌++◌, drop}
use Rattle.sm_tree.specs.Node.{members_of}
use Rattle.sm_tree.specs.View.{members_view}
use Rattle.sm_idl.specs.Written.{more_named_ids}
use Rattle.sm_idl.proofs.write.value.put_more_named_ids.Given as goal

abbrev pub invariant-loop-pair : goal.invariant-loop-pair
invariant-loop-pair l = record {
  written : l.out.items ++ more_named_ids (members_of (members_view (drop l.pair-index l.pairs)))
      ≡ l.fn.out.items ++ more_named_ids (members_of (members_view l.pairs));
}
