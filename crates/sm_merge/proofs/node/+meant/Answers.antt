use Rattle.std.proofs.Common.{ap, sym, ◌∙◌}
use Rattle.sm_tree.specs.Node.{list, object, nodes_of, members_of}
use Rattle.sm_tree.proofs.Views.{node_list_items, node_object_pairs}
use Rattle.sm_model.specs.RawView.{raw_view}
use Rattle.sm_merge.specs.Meaning.{node_meant}
use Rattle.sm_merge.specs.steps.Known.{known}
use Rattle.sm_merge.specs.steps.Meant.{entries_meant, pairs_meant}
use Rattle.sm_merge.proofs.MeantViews.{list_meant, object_meant}
use Rattle.sm_merge.proofs.node.+meant.Goals as goal

pub meant_node-returns-in_ok-entries-in-List : goal.meant_node-returns-in_ok-entries-in-List
meant_node-returns-in_ok-entries-in-List t c =
    let defined = known c.args.names.now in
    node_list_items c.new.result
    ∙ ap (λ ns. list (nodes_of ns)) (c.new.ensures ∙ c.in_ok-entries-in-List.ensures ∙ ap (entries_meant defined) c.as_slice.ensures)
    ∙ sym (list_meant defined c.in-List.items) ∙ ap (λ n. node_meant defined (raw_view n)) (sym c.in-List.is)

pub meant_node-returns-in_ok-members-in-Object : goal.meant_node-returns-in_ok-members-in-Object
meant_node-returns-in_ok-members-in-Object t c =
    let defined = known c.args.names.now in
    node_object_pairs c.new-in-Object.result
    ∙ ap (λ ms. object (members_of ms)) (c.new-in-Object.ensures ∙ c.in_ok-members-in-Object.ensures
    ∙ ap (pairs_meant defined) c.as_slice-in-Object.ensures)
    ∙ sym (object_meant defined c.in-Object.pairs) ∙ ap (λ n. node_meant defined (raw_view n)) (sym c.in-Object.is)
