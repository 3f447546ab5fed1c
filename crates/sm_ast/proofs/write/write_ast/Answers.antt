use Rattle.std.proofs.Common.{◌≡◌, ap, sym, ◌∙◌}
use Rattle.std.specs.FinMap as fin
use Rattle.std.proofs.lemmas.Result.{IfOk-weaker}
use Rattle.sm_tree.specs.View.{node_of, members_view}
use Rattle.sm_model.specs.GraphView.{maps_of}
use Rattle.sm_model.proofs.GraphFacts.{entries_are}
use Rattle.sm_ast.specs.Written.{ast_object, written_ast, written_shapes}
use Rattle.sm_ast.proofs.write.write_ast.Goals as goal

pub returns : goal.returns
returns c =
    let g = c.args.graph.now in
    let maps = maps_of g in
    let metadata = members_view c.metadata.result.now in
    let shapes = members_view c.in_ok-shapes.shapes.items in
    let put = c.in_ok-shapes.ensures ∙ ap (written_shapes maps.shapes) (sym (entries_are g)) in
    IfOk-weaker c.written.result (λ tree. node_of tree ≡ ast_object metadata shapes) (λ tree. node_of tree ≡ written_ast maps)
    (λ tree is. is ∙ ap (λ ms. ast_object ms shapes) (sym c.metadata.ensures)
    ∙ ap (ast_object (fin.entries maps.metadata)) put) c.written.ensures
