-- `maxProperties`, of the official test suite of JSON Schema. Made by tools/suite.
use Rattle.std.specs.Prelude.{pos, List, [], ◌∷◌, codes}
use Rattle.sm_tree.specs.Node.{int, text, list, object, no_nodes, node, no_members, member}
use Rattle.schema_suite.specs.Groups.{Group, group, invalid, valid}

abbrev pub max_properties_groups : List Group
max_properties_groups =
    -- maxProperties validation
    group (object (member (codes "maxProperties") (int (pos 2)) no_members)) (
    valid (object (member (codes "foo") (int (pos 1)) no_members)) ∷
    valid (object (member (codes "foo") (int (pos 1)) (member (codes "bar") (int (pos 2)) no_members))) ∷
    invalid (object (member (codes "foo") (int (pos 1)) (member (codes "bar") (int (pos 2)) (member (codes "baz") (int (pos 3))
    no_members)))) ∷
    valid (list (node (int (pos 1)) (node (int (pos 2)) (node (int (pos 3)) no_nodes)))) ∷
    valid (text (codes "foobar")) ∷
    valid (int (pos 12)) ∷
    []) ∷
    []
