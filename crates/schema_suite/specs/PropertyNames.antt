-- `propertyNames`, of the official test suite of JSON Schema. Made by tools/suite.
use Rattle.std.specs.Prelude.{pos, true, false, List, [], ◌∷◌, codes}
use Rattle.sm_tree.specs.Node.{bool, int, text, list, object, no_nodes, node, no_members, member}
use Rattle.schema_suite.specs.Groups.{Group, group, invalid, valid}

abbrev pub property_names_groups : List Group
property_names_groups =
    -- propertyNames validation
    group (object (member (codes "propertyNames") (object (member (codes "maxLength") (int (pos 3)) no_members)) no_members)) (
    valid (object (member (codes "f") (object no_members) (member (codes "foo") (object no_members) no_members))) ∷
    invalid (object (member (codes "foo") (object no_members) (member (codes "foobar") (object no_members) no_members))) ∷
    valid (object no_members) ∷
    valid (list (node (int (pos 1)) (node (int (pos 2)) (node (int (pos 3)) (node (int (pos 4)) no_nodes))))) ∷
    valid (text (codes "foobar")) ∷
    valid (int (pos 12)) ∷
    []) ∷
    -- propertyNames with boolean schema true
    group (object (member (codes "propertyNames") (bool true) no_members)) (
    valid (object (member (codes "foo") (int (pos 1)) no_members)) ∷
    valid (object no_members) ∷
    []) ∷
    -- propertyNames with boolean schema false
    group (object (member (codes "propertyNames") (bool false) no_members)) (
    invalid (object (member (codes "foo") (int (pos 1)) no_members)) ∷
    valid (object no_members) ∷
    []) ∷
    []
