-- `default`, of the official test suite of JSON Schema. Made by tools/suite.
use Rattle.std.specs.Prelude.{pos, List, [], ◌∷◌, codes}
use Rattle.sm_tree.specs.Node.{int, text, list, object, no_nodes, no_members, member}
use Rattle.schema_suite.specs.Groups.{Group, group, invalid, valid}

abbrev pub default_groups : List Group
default_groups =
    -- invalid type for default
    group (object (member (codes "properties") (object (member (codes "foo") (object (member (codes "type") (text (codes "integer"))
    (member (codes "default") (list no_nodes) no_members))) no_members)) no_members)) (
    valid (object (member (codes "foo") (int (pos 13)) no_members)) ∷
    valid (object no_members) ∷
    []) ∷
    -- invalid string value for default
    group (object (member (codes "properties") (object (member (codes "bar") (object (member (codes "type") (text (codes "string"))
    (member (codes "minLength") (int (pos 4)) (member (codes "default") (text (codes "bad")) no_members)))) no_members)) no_members)) (
    valid (object (member (codes "bar") (text (codes "good")) no_members)) ∷
    valid (object no_members) ∷
    []) ∷
    []
