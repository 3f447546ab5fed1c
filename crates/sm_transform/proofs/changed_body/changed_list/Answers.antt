use Rattle.std.proofs.Common.{List, ap, sym, ◌∙◌}
use Rattle.sm_tree.specs.Node.{Node, nodes_of}
use Rattle.sm_tree.specs.View.{nodes_view, node_of}
use Rattle.sm_transform.specs.IdChanges.{listed_after, list_left}
use Rattle.sm_transform.proofs.ChangedParts.{entries_listed}
use Rattle.sm_transform.proofs.changed_body.changed_list.Goals as goal

pub returns-in_ok-left-in-Some : goal.returns-in_ok-left-in-Some
returns-in_ok-left-in-Some g c =
    let change = g.C.ChangesIds.after c.args.change.now in
    let items = nodes_view c.in-Some.items.now in
    c.left_list.ensures
    ∙ ap (λ (ns : List Node). list_left (nodes_of items) (nodes_of ns)) c.in_ok-left-in-Some.ensures
    ∙ ap (list_left (nodes_of items)) (sym (entries_listed change items))
    ∙ ap (listed_after change (node_of c.args.tree.now)) (sym c.in-Some.ensures.part)
