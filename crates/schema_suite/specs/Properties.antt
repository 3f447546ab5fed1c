-- `properties`, of the official test suite of JSON Schema. Made by tools/suite.
use Rattle.std.specs.Prelude.{pos, true, false, List, [], ◌∷◌, codes}
use Rattle.sm_tree.specs.Node.{bool, int, text, list, object, no_nodes, no_members, member}
use Rattle.schema_suite.specs.Groups.{Group, group, invalid, valid}

abbrev pub properties_groups : List Group
properties_groups =
    -- object properties validation
    group (object (member (codes "properties") (object (member (codes "foo") (object (member (codes "type") (text (codes "integer"))
    no_members)) (member (codes "bar") (object (member (codes "type") (text (codes "string")) no_members)) no_members))) no_members)) (
    valid (object (member (codes "foo") (int (pos 1)) (member (codes "bar") (text (codes "baz")) no_members))) ∷
    invalid (object (member (codes "foo") (int (pos 1)) (member (codes "bar") (object no_members) no_members))) ∷
    invalid (object (member (codes "foo") (list no_nodes) (member (codes "bar") (object no_members) no_members))) ∷
    valid (object (member (codes "quux") (list no_nodes) no_members)) ∷
    valid (list no_nodes) ∷
    valid (int (pos 12)) ∷
    []) ∷
    -- properties with boolean schema
    group (object (member (codes "properties") (object (member (codes "foo") (bool true) (member (codes "bar") (bool false) no_members)))
    no_members)) (
    valid (object no_members) ∷
    valid (object (member (codes "foo") (int (pos 1)) no_members)) ∷
    invalid (object (member (codes "bar") (int (pos 2)) no_members)) ∷
    invalid (object (member (codes "foo") (int (pos 1)) (member (codes "bar") (int (pos 2)) no_members))) ∷
    []) ∷
    []
