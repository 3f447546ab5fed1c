-- `additionalProperties`, of the official test suite of JSON Schema. Made by tools/suite.
use Rattle.std.specs.Prelude.{pos, true, List, [], ◌∷◌, codes}
use Rattle.sm_tree.specs.Node.{bool, int, text, object, no_members, member}
use Rattle.schema_suite.specs.Groups.{Group, group, invalid, valid}

abbrev pub additional_properties_groups : List Group
additional_properties_groups =
    -- additionalProperties allows a schema which should validate
    group (object (member (codes "properties") (object (member (codes "foo") (object no_members) (member (codes "bar") (object no_members)
    no_members))) (member (codes "additionalProperties") (object (member (codes "type") (text (codes "boolean")) no_members))
    no_members))) (
    valid (object (member (codes "foo") (int (pos 1)) no_members)) ∷
    valid (object (member (codes "foo") (int (pos 1)) (member (codes "bar") (int (pos 2)) (member (codes "quux") (bool true)
    no_members)))) ∷
    invalid (object (member (codes "foo") (int (pos 1)) (member (codes "bar") (int (pos 2)) (member (codes "quux") (int (pos 12))
    no_members)))) ∷
    []) ∷
    -- additionalProperties can exist by itself
    group (object (member (codes "additionalProperties") (object (member (codes "type") (text (codes "boolean")) no_members)) no_members)) (
    valid (object (member (codes "foo") (bool true) no_members)) ∷
    invalid (object (member (codes "foo") (int (pos 1)) no_members)) ∷
    []) ∷
    -- additionalProperties are allowed by default
    group (object (member (codes "properties") (object (member (codes "foo") (object no_members) (member (codes "bar") (object no_members)
    no_members))) no_members)) (
    valid (object (member (codes "foo") (int (pos 1)) (member (codes "bar") (int (pos 2)) (member (codes "quux") (bool true)
    no_members)))) ∷
    []) ∷
    []
