use Rattle.std.proofs.Common.{ap, sym, ◌∙◌}
use Rattle.sm_tree.specs.Node.{list, object, nodes_of, members_of}
use Rattle.sm_tree.specs.View.{node_of}
use Rattle.sm_tree.proofs.Views.{node_list_items, node_object_pairs}
use Rattle.sm_merge.specs.Stated.{is_empty}
use Rattle.sm_merge.proofs.Bodies.{list_empty, object_empty}
use Rattle.sm_merge.proofs.body.is_empty.Goals as goal

pub returns-in-List : goal.returns-in-List
returns-in-List c =
    c.is_empty.ensures ∙ list_empty c.as_slice.result.now ∙ ap (λ ns. is_empty (list (nodes_of ns))) c.as_slice.ensures
    ∙ ap is_empty (sym (node_list_items c.in-List.items)) ∙ ap (λ t. is_empty (node_of t)) (sym c.in-List.is)

pub returns-in-Object : goal.returns-in-Object
returns-in-Object c =
    c.is_empty-in-Object.ensures ∙ object_empty c.as_slice-in-Object.result.now
    ∙ ap (λ ms. is_empty (object (members_of ms))) c.as_slice-in-Object.ensures
    ∙ ap is_empty (sym (node_object_pairs c.in-Object.pairs)) ∙ ap (λ t. is_empty (node_of t)) (sym c.in-Object.is)
