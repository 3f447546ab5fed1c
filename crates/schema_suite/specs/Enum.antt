-- `enum`, of the official test suite of JSON Schema. Made by tools/suite.
use Rattle.std.specs.Prelude.{pos, true, false, List, [], ◌∷◌, codes}
use Rattle.sm_tree.specs.Node.{null, bool, int, text, list, object, no_nodes, node, no_members, member}
use Rattle.schema_suite.specs.Groups.{Group, group, invalid, valid}

abbrev pub enum_groups : List Group
enum_groups =
    -- simple enum validation
    group (object (member (codes "enum") (list (node (int (pos 1)) (node (int (pos 2)) (node (int (pos 3)) no_nodes)))) no_members)) (
    valid (int (pos 1)) ∷
    invalid (int (pos 4)) ∷
    []) ∷
    -- heterogeneous enum validation
    group (object (member (codes "enum") (list (node (int (pos 6)) (node (text (codes "foo")) (node (list no_nodes) (node (bool true)
    (node (object (member (codes "foo") (int (pos 12)) no_members)) no_nodes)))))) no_members)) (
    valid (list no_nodes) ∷
    invalid null ∷
    invalid (object (member (codes "foo") (bool false) no_members)) ∷
    []) ∷
    -- enums in properties
    group (object (member (codes "type") (text (codes "object")) (member (codes "properties") (object (member (codes "foo") (object
    (member (codes "enum") (list (node (text (codes "foo")) no_nodes)) no_members)) (member (codes "bar") (object (member (codes
    "enum") (list (node (text (codes "bar")) no_nodes)) no_members)) no_members))) (member (codes "required") (list (node (text (codes
    "bar")) no_nodes)) no_members)))) (
    valid (object (member (codes "foo") (text (codes "foo")) (member (codes "bar") (text (codes "bar")) no_members))) ∷
    valid (object (member (codes "bar") (text (codes "bar")) no_members)) ∷
    invalid (object (member (codes "foo") (text (codes "foo")) no_members)) ∷
    invalid (object no_members) ∷
    []) ∷
    []
