use Rattle.std.proofs.Common.{◌≡◌, [], ◌∷◌, ◌++◌, ap, append-nil, subst, sym, ◌∙◌}
use Rattle.std.specs.Prelude.{slice_get}
use Rattle.sm_ids.specs.TextParts.{member_name}
use Rattle.sm_tree.specs.View.{node_of, members_view}
use Rattle.sm_model.specs.GraphView.{At, entries_of, is_member_entry}
use Rattle.sm_model.proofs.GraphFacts.{member_found}
use Rattle.sm_ast.proofs.WrittenAt.{member_left_out, member_put}
use Rattle.sm_ast.proofs.write.member.put_member.Goals as goal

pub member_tree-requires-clause-is_member : goal.member_tree-requires-clause-is_member
member_tree-requires-clause-is_member c =
    let g = c.args.graph.now in
    member_found (slice_get (entries_of g) c.args.member)
    (subst (λ b. At g c.args.member (λ id e. is_member_entry e ≡ b)) c.if-is_member.true c.is_member.ensures)

pub returns-in_ok-put_field : goal.returns-in_ok-put_field
returns-in_ok-put_field c =
    let g = c.args.graph.now in
    c.in_ok-put_field.ensures
    ∙ ap (λ name. members_view c.args.fields.now.items ++ (name, node_of c.in_ok-tree.tree) ∷ []) (c.member_name-name.ensures ∙ ap member_name c.as_str.ensures)
    ∙ ap (λ ps. members_view c.args.fields.now.items ++ ps)
    (sym (member_put g c.args.member c.id.result.now (node_of c.in_ok-tree.tree) c.id.ensures c.in_ok-tree.ensures))

pub returns-else-is_member : goal.returns-else-is_member
returns-else-is_member c =
    let g = c.args.graph.now in
    sym (append-nil _) ∙ ap (λ ps. members_view c.args.fields.now.items ++ ps)
    (sym (member_left_out g c.args.member
    (subst (λ b. At g c.args.member (λ id e. is_member_entry e ≡ b)) c.if-is_member.false c.is_member.ensures)))
