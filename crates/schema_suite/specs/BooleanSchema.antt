-- `boolean_schema`, of the official test suite of JSON Schema. Made by tools/suite.
use Rattle.std.specs.Prelude.{pos, true, false, List, [], ◌∷◌, codes}
use Rattle.sm_tree.specs.Node.{null, bool, int, text, list, object, no_nodes, node, no_members, member}
use Rattle.schema_suite.specs.Groups.{Group, group, invalid, valid}

abbrev pub boolean_schema_groups : List Group
boolean_schema_groups =
    -- boolean schema 'true'
    group (bool true) (
    valid (int (pos 1)) ∷
    valid (text (codes "foo")) ∷
    valid (bool true) ∷
    valid (bool false) ∷
    valid null ∷
    valid (object (member (codes "foo") (text (codes "bar")) no_members)) ∷
    valid (object no_members) ∷
    valid (list (node (text (codes "foo")) no_nodes)) ∷
    valid (list no_nodes) ∷
    []) ∷
    -- boolean schema 'false'
    group (bool false) (
    invalid (int (pos 1)) ∷
    invalid (text (codes "foo")) ∷
    invalid (bool true) ∷
    invalid (bool false) ∷
    invalid null ∷
    invalid (object (member (codes "foo") (text (codes "bar")) no_members)) ∷
    invalid (object no_members) ∷
    invalid (list (node (text (codes "foo")) no_nodes)) ∷
    invalid (list no_nodes) ∷
    []) ∷
    []
