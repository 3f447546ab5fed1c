-- `items`, of the official test suite of JSON Schema. Made by tools/suite.
use Rattle.std.specs.Prelude.{pos, true, false, List, [], ◌∷◌, codes}
use Rattle.sm_tree.specs.Node.{bool, int, text, list, object, no_nodes, node, no_members, member}
use Rattle.schema_suite.specs.Groups.{Group, group, invalid, valid}

abbrev pub items_groups : List Group
items_groups =
    -- a schema given for items
    group (object (member (codes "items") (object (member (codes "type") (text (codes "integer")) no_members)) no_members)) (
    valid (list (node (int (pos 1)) (node (int (pos 2)) (node (int (pos 3)) no_nodes)))) ∷
    invalid (list (node (int (pos 1)) (node (text (codes "x")) no_nodes))) ∷
    valid (object (member (codes "foo") (text (codes "bar")) no_members)) ∷
    valid (object (member (codes "0") (text (codes "invalid")) (member (codes "length") (int (pos 1)) no_members))) ∷
    []) ∷
    -- items with boolean schema (true)
    group (object (member (codes "items") (bool true) no_members)) (
    valid (list (node (int (pos 1)) (node (text (codes "foo")) (node (bool true) no_nodes)))) ∷
    valid (list no_nodes) ∷
    []) ∷
    -- items with boolean schema (false)
    group (object (member (codes "items") (bool false) no_members)) (
    invalid (list (node (int (pos 1)) (node (text (codes "foo")) (node (bool true) no_nodes)))) ∷
    valid (list no_nodes) ∷
    []) ∷
    []
