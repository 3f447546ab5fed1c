use Rattle.std.proofs.Common.{◌≡◌, subst, sym}
use Rattle.std.specs.Prelude.{Some, slice_get}
use Rattle.std.proofs.lemmas.Result.{IfOk-weaker}
use Rattle.sm_tree.specs.View.{node_of, members_view}
use Rattle.sm_model.specs.GraphView.{At, entries_of, Targets}
use Rattle.sm_ast.specs.Written.{member_object, written_member}
use Rattle.sm_ast.proofs.WrittenAt.{member_written}
use Rattle.sm_ast.proofs.write.member.member_tree.Goals as goal

pub returns : goal.returns
returns c =
    let g = c.args.graph.now in
    let k = c.args.member in
    let target = c.as_str-target.result.now in
    let traits = members_view c.traits.result.now in
    IfOk-weaker c.written.result (λ tree. node_of tree ≡ member_object target traits)
    (λ tree. At g k (λ id e. written_member e ≡ Some (node_of tree)))
    (λ tree is. member_written (slice_get (entries_of g) k) target traits (node_of tree)
    (subst (λ t. At g k (λ id e. Targets t e)) (sym c.as_str-target.ensures) c.target_id.ensures) c.traits.ensures is) c.written.ensures
