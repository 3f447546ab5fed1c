use Rattle.std.proofs.Common.{◌≡◌, Some, subst}
use Rattle.std.specs.Prelude.{slice_get}
use Rattle.sm_tree.specs.View.{node_of}
use Rattle.sm_shapes.specs.AnyStore.{any_texts}
use Rattle.sm_value_rules.proofs.NodesTold.{value_told}
use Rattle.sm_value_rules.proofs.nodes.NodeTable.first_fault.Goals as goal

pub returns-in-Ok-clause-told : goal.returns-in-Ok-clause-told
returns-in-Ok-clause-told c =
    let nodes = c.args.self.now in
    let at = subst (λ ks. slice_get ks c.row_at-row.result ≡ Some c.args.root) c.as_slice.ensures.value c.row_at-row.ensures in
    value_told nodes.tabled (any_texts nodes.patterns) c.requires.ready c.args.root c.row_at-row.result at (node_of c.args.tree.now) _
    c.in-Ok.ensures.decoded
