-- `uniqueItems`, of the official test suite of JSON Schema. Made by tools/suite.
use Rattle.std.specs.Prelude.{pos, true, false, List, [], ◌∷◌, codes}
use Rattle.sm_tree.specs.Node.{null, bool, int, text, list, object, no_nodes, node, no_members, member}
use Rattle.schema_suite.specs.Groups.{Group, group, invalid, valid}

abbrev pub unique_items_groups : List Group
unique_items_groups =
    -- uniqueItems validation
    group (object (member (codes "uniqueItems") (bool true) no_members)) (
    valid (list (node (int (pos 1)) (node (int (pos 2)) no_nodes))) ∷
    invalid (list (node (int (pos 1)) (node (int (pos 1)) no_nodes))) ∷
    valid (list (node (object (member (codes "foo") (text (codes "bar")) no_members)) (node (object (member (codes "foo") (text (codes
    "baz")) no_members)) no_nodes))) ∷
    invalid (list (node (object (member (codes "foo") (text (codes "bar")) no_members)) (node (object (member (codes "foo") (text
    (codes "bar")) no_members)) no_nodes))) ∷
    valid (list (node (object (member (codes "foo") (object (member (codes "bar") (object (member (codes "baz") (bool true)
    no_members)) no_members)) no_members)) (node (object (member (codes "foo") (object (member (codes "bar") (object (member
    (codes "baz") (bool false) no_members)) no_members)) no_members)) no_nodes))) ∷
    invalid (list (node (object (member (codes "foo") (object (member (codes "bar") (object (member (codes "baz") (bool true)
    no_members)) no_members)) no_members)) (node (object (member (codes "foo") (object (member (codes "bar") (object (member
    (codes "baz") (bool true) no_members)) no_members)) no_members)) no_nodes))) ∷
    valid (list (node (list (node (text (codes "foo")) no_nodes)) (node (list (node (text (codes "bar")) no_nodes)) no_nodes))) ∷
    invalid (list (node (list (node (text (codes "foo")) no_nodes)) (node (list (node (text (codes "foo")) no_nodes)) no_nodes))) ∷
    valid (list (node (int (pos 1)) (node (bool true) no_nodes))) ∷
    valid (list (node (int (pos 0)) (node (bool false) no_nodes))) ∷
    valid (list (node (object no_members) (node (list (node (int (pos 1)) no_nodes)) (node (bool true) (node null (node (int (pos 1))
    no_nodes)))))) ∷
    invalid (list (node (object no_members) (node (list (node (int (pos 1)) no_nodes)) (node (bool true) (node null (node (object
    no_members) (node (int (pos 1)) no_nodes))))))) ∷
    []) ∷
    []
