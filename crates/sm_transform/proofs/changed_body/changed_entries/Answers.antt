use Rattle.std.proofs.Common.{◌≡◌, ◌+◌, ◌++◌, ◌∷◌, List, ap, arith, drop, sym, ◌∙◌}
use Rattle.std.specs.List.{filter_map}
use Rattle.std.proofs.lemmas.List.{drop_more}
use Rattle.sm_tree.specs.Node.{Node}
use Rattle.sm_tree.specs.View.{node_of, nodes_view}
use Rattle.sm_tree.specs.declared.tree.Tree.{Tree}
use Rattle.sm_transform.specs.IdChanges.{reference_after}
use Rattle.sm_transform.proofs.ChangedParts.{one_more}
use Rattle.sm_transform.proofs.changed_body.changed_entries.Goals as goal

pub loop-item-preserved : goal.loop-item-preserved
loop-item-preserved g c =
    let at = c.loop-item in
    let i = at.item-index in
    let items = c.args.items.now in
    let item : Tree = c.item-item.result in
    let h = reference_after (g.C.ChangesIds.after c.args.change.now) in
    let rest = drop (i + 1) items in
    let next : drop i items ≡ item ∷ rest = drop_more items i item (omega arith) ∙ ap (λ y. y ∷ rest) (sym c.item-item.is) in
    ap (λ (xs : List Node). xs ++ filter_map h (nodes_view rest)) c.in_ok-put_entry.ensures
    ∙ one_more h (nodes_view at.entries.items) (node_of item) (nodes_view rest)
    ∙ ap (λ (ts : List Tree). nodes_view at.entries.items ++ filter_map h (nodes_view ts)) (sym next) ∙ at.invariant
