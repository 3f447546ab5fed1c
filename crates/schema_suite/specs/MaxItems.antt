-- `maxItems`, of the official test suite of JSON Schema. Made by tools/suite.
use Rattle.std.specs.Prelude.{pos, List, [], ◌∷◌, codes}
use Rattle.sm_tree.specs.Node.{int, text, list, object, no_nodes, node, no_members, member}
use Rattle.schema_suite.specs.Groups.{Group, group, invalid, valid}

abbrev pub max_items_groups : List Group
max_items_groups =
    -- maxItems validation
    group (object (member (codes "maxItems") (int (pos 2)) no_members)) (
    valid (list (node (int (pos 1)) no_nodes)) ∷
    valid (list (node (int (pos 1)) (node (int (pos 2)) no_nodes))) ∷
    invalid (list (node (int (pos 1)) (node (int (pos 2)) (node (int (pos 3)) no_nodes)))) ∷
    valid (text (codes "foobar")) ∷
    []) ∷
    []
