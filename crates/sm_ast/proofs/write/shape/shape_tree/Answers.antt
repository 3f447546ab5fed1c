use Rattle.std.proofs.Common.{◌≡◌, [], get_or, map}
use Rattle.std.specs.Prelude.{slice_get}
use Rattle.std.proofs.lemmas.Result.{IfOk-weaker}
use Rattle.sm_tree.specs.View.{node_of, members_view}
use Rattle.sm_model.specs.GraphView.{At, entries_of, ids, maps_of}
use Rattle.sm_ast.specs.Written.{shape_object, written_members}
use Rattle.sm_ast.specs.PartsSaid.{pairs_said}
use Rattle.sm_ast.specs.steps.Writing.{IsWrittenShape}
use Rattle.sm_ast.proofs.WrittenAt.{shape_written}
use Rattle.sm_ast.proofs.write.shape.shape_tree.Goals as goal

pub returns : goal.returns
returns c =
    let g = c.args.graph.now in
    let k = c.args.number in
    let shapes = (maps_of g).shapes in
    let members = map (λ m. get_or (ids g) m []) c.members-members.result.now in
    let body = node_of c.properties-body.result.now in
    let traits = members_view c.traits.result.now in
    IfOk-weaker c.written.result
    (λ tree. node_of tree ≡ shape_object c.kind-kind.result (written_members shapes members) (pairs_said body) traits)
    (λ tree. At g k (λ id e. IsWrittenShape shapes (node_of tree) e))
    (λ tree is. shape_written shapes (slice_get (entries_of g) k) c.kind-kind.result members body traits (node_of tree)
    c.kind-kind.ensures c.members-members.ensures.ids c.properties-body.ensures c.traits.ensures is) c.written.ensures
