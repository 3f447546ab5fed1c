-- `oneOf`, of the official test suite of JSON Schema. Made by tools/suite.
use Rattle.std.specs.Prelude.{pos, true, false, List, [], ◌∷◌, codes}
use Rattle.sm_tree.specs.Node.{bool, int, number, text, list, object, no_nodes, node, no_members, member}
use Rattle.schema_suite.specs.Groups.{Group, group, invalid, valid}

abbrev pub one_of_groups : List Group
one_of_groups =
    -- oneOf
    group (object (member (codes "oneOf") (list (node (object (member (codes "type") (text (codes "integer")) no_members)) (node (object
    (member (codes "minimum") (int (pos 2)) no_members)) no_nodes))) no_members)) (
    valid (int (pos 1)) ∷
    valid (number (codes "2.5")) ∷
    invalid (int (pos 3)) ∷
    invalid (number (codes "1.5")) ∷
    []) ∷
    -- oneOf with base schema
    group (object (member (codes "type") (text (codes "string")) (member (codes "oneOf") (list (node (object (member (codes "minLength")
    (int (pos 2)) no_members)) (node (object (member (codes "maxLength") (int (pos 4)) no_members)) no_nodes))) no_members))) (
    invalid (int (pos 3)) ∷
    valid (text (codes "foobar")) ∷
    invalid (text (codes "foo")) ∷
    []) ∷
    -- oneOf with boolean schemas, all true
    group (object (member (codes "oneOf") (list (node (bool true) (node (bool true) (node (bool true) no_nodes)))) no_members)) (
    invalid (text (codes "foo")) ∷
    []) ∷
    -- oneOf with boolean schemas, one true
    group (object (member (codes "oneOf") (list (node (bool true) (node (bool false) (node (bool false) no_nodes)))) no_members)) (
    valid (text (codes "foo")) ∷
    []) ∷
    -- oneOf with boolean schemas, more than one true
    group (object (member (codes "oneOf") (list (node (bool true) (node (bool true) (node (bool false) no_nodes)))) no_members)) (
    invalid (text (codes "foo")) ∷
    []) ∷
    -- oneOf with boolean schemas, all false
    group (object (member (codes "oneOf") (list (node (bool false) (node (bool false) (node (bool false) no_nodes)))) no_members)) (
    invalid (text (codes "foo")) ∷
    []) ∷
    -- oneOf complex types
    group (object (member (codes "oneOf") (list (node (object (member (codes "properties") (object (member (codes "bar") (object (member
    (codes "type") (text (codes "integer")) no_members)) no_members)) (member (codes "required") (list (node (text (codes "bar"))
    no_nodes)) no_members))) (node (object (member (codes "properties") (object (member (codes "foo") (object (member (codes "type")
    (text (codes "string")) no_members)) no_members)) (member (codes "required") (list (node (text (codes "foo")) no_nodes))
    no_members))) no_nodes))) no_members)) (
    valid (object (member (codes "bar") (int (pos 2)) no_members)) ∷
    valid (object (member (codes "foo") (text (codes "baz")) no_members)) ∷
    invalid (object (member (codes "foo") (text (codes "baz")) (member (codes "bar") (int (pos 2)) no_members))) ∷
    invalid (object (member (codes "foo") (int (pos 2)) (member (codes "bar") (text (codes "quux")) no_members))) ∷
    []) ∷
    []
