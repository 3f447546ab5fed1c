use Rattle.std.proofs.Common.{◌≡◌, ◌++◌, drop}
use Rattle.sm_tree.specs.Node.{nodes_of}
use Rattle.sm_tree.specs.View.{nodes_view}
use Rattle.sm_idl.specs.Written.{more_ids}
use Rattle.sm_idl.proofs.write.value.put_more_ids.Given as goal

abbrev pub invariant-loop-id : goal.invariant-loop-id
invariant-loop-id l = record {
  written : l.out.items ++ more_ids (nodes_of (nodes_view (drop l.id-index l.ids)))
      ≡ l.fn.out.items ++ more_ids (nodes_of (nodes_view l.ids));
}
