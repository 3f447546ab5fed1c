use Rattle.std.proofs.Common.{◌≡◌, subst, sym, ◌∙◌}
use Rattle.std.specs.Prelude.{slice_get}
use Rattle.sm_tree.specs.View.{node_of, members_view}
use Rattle.sm_model.specs.GraphView.{At, entries_of, is_member_entry, maps_of}
use Rattle.sm_model.proofs.GraphFacts.{shape_found}
use Rattle.sm_ast.proofs.WrittenAt.{member_skipped, prelude_skipped, shape_put}
use Rattle.sm_ast.proofs.write.shape.put_shape.Goals as goal

pub returns-then-is_member : goal.returns-then-is_member
returns-then-is_member c =
    let g = c.args.graph.now in
    member_skipped (maps_of g).shapes (slice_get (entries_of g) c.args.number) (members_view c.args.shapes.now.items)
    (subst (λ b. At g c.args.number (λ id e. is_member_entry e ≡ b)) c.if-is_member.true c.is_member.ensures)

pub returns-then-is_in_prelude : goal.returns-then-is_in_prelude
returns-then-is_in_prelude c =
    let g = c.args.graph.now in
    prelude_skipped (maps_of g).shapes (slice_get (entries_of g) c.args.number)
    (members_view c.args.shapes.now.items) c.as_str-id.result.now
    (subst (λ t. At g c.args.number (λ id e. t ≡ id)) (sym c.as_str-id.ensures) c.id.ensures)
    (sym c.is_in_prelude.ensures ∙ c.if-is_in_prelude.true)

pub shape_tree-requires-clause-is_shape : goal.shape_tree-requires-clause-is_shape
shape_tree-requires-clause-is_shape c =
    let g = c.args.graph.now in
    shape_found (slice_get (entries_of g) c.args.number)
    (subst (λ b. At g c.args.number (λ id e. is_member_entry e ≡ b)) c.if-is_member.false c.is_member.ensures)

pub returns : goal.returns
returns c =
    let g = c.args.graph.now in
    shape_put (maps_of g).shapes (slice_get (entries_of g) c.args.number) _ (members_view c.args.shapes.now.items) c.as_str-id.result.now
    (node_of c.in_ok-tree.tree) (subst (λ t. At g c.args.number (λ id e. t ≡ id)) (sym c.as_str-id.ensures) c.id.ensures)
    (sym c.is_in_prelude.ensures ∙ c.if-is_in_prelude.false) c.in_ok-tree.ensures c.in_ok-put_field.ensures
