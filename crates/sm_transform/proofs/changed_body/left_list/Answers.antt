use Rattle.std.proofs.Common.{◌≡◌, true, false, length, Some, ap, subst, sym, ◌∙◌}
use Rattle.std.specs.Prelude.{◌==◌}
use Rattle.sm_tree.specs.Node.{list, nodes_of}
use Rattle.sm_tree.proofs.Views.{node_list_items}
use Rattle.sm_transform.proofs.ChangedParts.{list_none, list_some}
use Rattle.sm_transform.proofs.changed_body.left_list.Goals as goal

pub returns-then-is_empty-2 : goal.returns-then-is_empty-2
returns-then-is_empty-2 c = sym (list_none c.args.items.now c.args.left.items c.if-is_empty.ensures (subst (λ xs. true ≡
    (length xs == 0)) c.as_slice.ensures.value c.if-is_empty-2.ensures))

pub returns : goal.returns
returns c =
    ap Some (node_list_items c.new-2.result ∙ ap (λ ns. list (nodes_of ns)) c.new-2.ensures)
    ∙ sym (list_some c.args.items.now c.args.left.items (subst (λ xs. false ≡
    (length xs == 0)) c.as_slice.ensures.value c.if-is_empty-2.ensures))
