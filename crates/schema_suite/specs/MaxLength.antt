-- `maxLength`, of the official test suite of JSON Schema. Made by tools/suite.
use Rattle.std.specs.Prelude.{pos, List, [], ◌∷◌, codes}
use Rattle.sm_tree.specs.Node.{int, text, object, no_members, member}
use Rattle.schema_suite.specs.Groups.{Group, group, invalid, valid}

abbrev pub max_length_groups : List Group
max_length_groups =
    -- maxLength validation
    group (object (member (codes "maxLength") (int (pos 2)) no_members)) (
    valid (text (codes "f")) ∷
    valid (text (codes "fo")) ∷
    invalid (text (codes "foo")) ∷
    valid (int (pos 100)) ∷
    valid (text (240 ∷ 159 ∷ 146 ∷ 169 ∷ 240 ∷ 159 ∷ 146 ∷ 169 ∷ [])) ∷
    []) ∷
    []
