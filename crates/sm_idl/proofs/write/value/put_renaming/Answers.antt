use Rattle.std.proofs.Common.{◌++◌, ap, sym, ◌∙◌}
use Rattle.std.proofs.lemmas.Result.{on_ok_weaker}
use Rattle.sm_tree.specs.Node.{object, members_of}
use Rattle.sm_tree.specs.View.{node_of}
use Rattle.sm_tree.proofs.Views.{node_object_pairs}
use Rattle.sm_idl.specs.Written.{field_line}
use Rattle.sm_idl.proofs.WrittenIdl.{pairs_there}
use Rattle.sm_idl.proofs.write.value.put_renaming.Goals as goal

pub returns-else-is_empty : goal.returns-else-is_empty
returns-else-is_empty c =
    let node = ap node_of c.in-Object.is ∙ node_object_pairs c.in-Object.pairs
    ∙ ap (λ ms. object (members_of ms)) (sym c.as_slice.ensures) in
    let some = sym c.is_empty.ensures ∙ c.if-is_empty.false in
    on_ok_weaker c.put_node_line.result
    (λ is. is ∙ ap (λ v. c.args.out.now.items ++ field_line c.args.name.now v)
    (sym (pairs_there (node_of c.args.node.now) c.as_slice.result.now node some))) c.put_node_line.ensures
