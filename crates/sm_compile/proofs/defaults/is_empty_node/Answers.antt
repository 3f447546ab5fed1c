use Rattle.sm_compile.proofs.EmptyNodes.{empty_list, empty_object}
use Rattle.sm_compile.proofs.defaults.is_empty_node.Goals as goal

pub returns-in-List : goal.returns-in-List
returns-in-List c =
    empty_list c.args.tree.now c.in-List.items c.as_slice.result.now c.no_items.result c.in-List.is c.as_slice.ensures c.no_items.ensures

pub returns-in-Object : goal.returns-in-Object
returns-in-Object c =
    empty_object c.args.tree.now c.in-Object.pairs c.as_slice-in-Object.result.now c.no_pairs.result c.in-Object.is
    c.as_slice-in-Object.ensures c.no_pairs.ensures
