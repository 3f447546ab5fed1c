-- `ref`, of the official test suite of JSON Schema. Made by tools/suite.
use Rattle.std.specs.Prelude.{pos, true, false, List, [], ◌∷◌, codes}
use Rattle.sm_tree.specs.Node.{bool, int, text, object, no_members, member}
use Rattle.schema_suite.specs.Groups.{Group, group, invalid, valid}

abbrev pub ref_groups : List Group
ref_groups =
    -- nested refs
    group (object (member (codes "$defs") (object (member (codes "a") (object (member (codes "type") (text (codes "integer")) no_members))
    (member (codes "b") (object (member (codes "$ref") (text (codes "#/$defs/a")) no_members)) (member (codes "c") (object (member
    (codes "$ref") (text (codes "#/$defs/b")) no_members)) no_members)))) (member (codes "$ref") (text (codes "#/$defs/c"))
    no_members))) (
    valid (int (pos 5)) ∷
    invalid (text (codes "a")) ∷
    []) ∷
    -- property named $ref that is not a reference
    group (object (member (codes "properties") (object (member (codes "$ref") (object (member (codes "type") (text (codes "string"))
    no_members)) no_members)) no_members)) (
    valid (object (member (codes "$ref") (text (codes "a")) no_members)) ∷
    invalid (object (member (codes "$ref") (int (pos 2)) no_members)) ∷
    []) ∷
    -- $ref to boolean schema true
    group (object (member (codes "$ref") (text (codes "#/$defs/bool")) (member (codes "$defs") (object (member (codes "bool") (bool true)
    no_members)) no_members))) (
    valid (text (codes "foo")) ∷
    []) ∷
    -- $ref to boolean schema false
    group (object (member (codes "$ref") (text (codes "#/$defs/bool")) (member (codes "$defs") (object (member (codes "bool") (bool false)
    no_members)) no_members))) (
    invalid (text (codes "foo")) ∷
    []) ∷
    []
