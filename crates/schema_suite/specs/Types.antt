-- `type`, of the official test suite of JSON Schema. Made by tools/suite.
use Rattle.std.specs.Prelude.{pos, true, List, [], ◌∷◌, codes}
use Rattle.sm_tree.specs.Node.{null, bool, int, number, text, list, object, no_nodes, node, no_members, member}
use Rattle.schema_suite.specs.Groups.{Group, group, invalid, valid}

abbrev pub type_groups : List Group
type_groups =
    -- integer type matches integers
    group (object (member (codes "type") (text (codes "integer")) no_members)) (
    valid (int (pos 1)) ∷
    invalid (number (codes "1.1")) ∷
    invalid (text (codes "foo")) ∷
    invalid (text (codes "1")) ∷
    invalid (object no_members) ∷
    invalid (list no_nodes) ∷
    invalid (bool true) ∷
    invalid null ∷
    []) ∷
    -- number type matches numbers
    group (object (member (codes "type") (text (codes "number")) no_members)) (
    valid (int (pos 1)) ∷
    valid (number (codes "1.1")) ∷
    invalid (text (codes "foo")) ∷
    invalid (text (codes "1")) ∷
    invalid (object no_members) ∷
    invalid (list no_nodes) ∷
    invalid (bool true) ∷
    invalid null ∷
    []) ∷
    -- string type matches strings
    group (object (member (codes "type") (text (codes "string")) no_members)) (
    invalid (int (pos 1)) ∷
    invalid (number (codes "1.1")) ∷
    valid (text (codes "foo")) ∷
    valid (text (codes "1")) ∷
    invalid (object no_members) ∷
    invalid (list no_nodes) ∷
    invalid (bool true) ∷
    invalid null ∷
    []) ∷
    -- object type matches objects
    group (object (member (codes "type") (text (codes "object")) no_members)) (
    invalid (int (pos 1)) ∷
    invalid (number (codes "1.1")) ∷
    invalid (text (codes "foo")) ∷
    valid (object no_members) ∷
    invalid (list no_nodes) ∷
    invalid (bool true) ∷
    invalid null ∷
    []) ∷
    -- array type matches arrays
    group (object (member (codes "type") (text (codes "array")) no_members)) (
    invalid (int (pos 1)) ∷
    invalid (number (codes "1.1")) ∷
    invalid (text (codes "foo")) ∷
    invalid (object no_members) ∷
    valid (list no_nodes) ∷
    invalid (bool true) ∷
    invalid null ∷
    []) ∷
    -- boolean type matches booleans
    group (object (member (codes "type") (text (codes "boolean")) no_members)) (
    invalid (int (pos 1)) ∷
    invalid (number (codes "1.1")) ∷
    invalid (text (codes "foo")) ∷
    invalid (object no_members) ∷
    invalid (list no_nodes) ∷
    valid (bool true) ∷
    invalid null ∷
    []) ∷
    -- null type matches only the null object
    group (object (member (codes "type") (text (codes "null")) no_members)) (
    invalid (int (pos 1)) ∷
    invalid (number (codes "1.1")) ∷
    invalid (text (codes "foo")) ∷
    invalid (object no_members) ∷
    invalid (list no_nodes) ∷
    invalid (bool true) ∷
    valid null ∷
    []) ∷
    -- multiple types can be specified in an array
    group (object (member (codes "type") (list (node (text (codes "integer")) (node (text (codes "string")) no_nodes))) no_members)) (
    valid (int (pos 1)) ∷
    valid (text (codes "foo")) ∷
    invalid (number (codes "1.1")) ∷
    invalid (object no_members) ∷
    invalid (list no_nodes) ∷
    invalid (bool true) ∷
    invalid null ∷
    []) ∷
    []
