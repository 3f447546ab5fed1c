-- `required`, of the official test suite of JSON Schema. Made by tools/suite.
use Rattle.std.specs.Prelude.{pos, List, [], ◌∷◌, codes}
use Rattle.sm_tree.specs.Node.{int, text, list, object, no_nodes, node, no_members, member}
use Rattle.schema_suite.specs.Groups.{Group, group, invalid, valid}

abbrev pub required_groups : List Group
required_groups =
    -- required validation
    group (object (member (codes "properties") (object (member (codes "foo") (object no_members) (member (codes "bar") (object no_members)
    no_members))) (member (codes "required") (list (node (text (codes "foo")) no_nodes)) no_members))) (
    valid (object (member (codes "foo") (int (pos 1)) no_members)) ∷
    invalid (object (member (codes "bar") (int (pos 1)) no_members)) ∷
    valid (list no_nodes) ∷
    valid (text (codes "")) ∷
    valid (int (pos 12)) ∷
    []) ∷
    -- required default validation
    group (object (member (codes "properties") (object (member (codes "foo") (object no_members) no_members)) no_members)) (
    valid (object no_members) ∷
    []) ∷
    -- required with empty array
    group (object (member (codes "properties") (object (member (codes "foo") (object no_members) no_members)) (member (codes "required")
    (list no_nodes) no_members))) (
    valid (object no_members) ∷
    []) ∷
    []
