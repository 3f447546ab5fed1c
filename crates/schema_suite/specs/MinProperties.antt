-- `minProperties`, of the official test suite of JSON Schema. Made by tools/suite.
use Rattle.std.specs.Prelude.{pos, List, [], ◌∷◌, codes}
use Rattle.sm_tree.specs.Node.{int, text, list, object, no_nodes, no_members, member}
use Rattle.schema_suite.specs.Groups.{Group, group, invalid, valid}

abbrev pub min_properties_groups : List Group
min_properties_groups =
    -- minProperties validation
    group (object (member (codes "minProperties") (int (pos 1)) no_members)) (
    valid (object (member (codes "foo") (int (pos 1)) (member (codes "bar") (int (pos 2)) no_members))) ∷
    valid (object (member (codes "foo") (int (pos 1)) no_members)) ∷
    invalid (object no_members) ∷
    valid (list no_nodes) ∷
    valid (text (codes "")) ∷
    valid (int (pos 12)) ∷
    []) ∷
    []
