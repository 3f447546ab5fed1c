-- `minLength`, of the official test suite of JSON Schema. Made by tools/suite.
use Rattle.std.specs.Prelude.{pos, List, [], ◌∷◌, codes}
use Rattle.sm_tree.specs.Node.{int, text, object, no_members, member}
use Rattle.schema_suite.specs.Groups.{Group, group, invalid, valid}

abbrev pub min_length_groups : List Group
min_length_groups =
    -- minLength validation
    group (object (member (codes "minLength") (int (pos 2)) no_members)) (
    valid (text (codes "foo")) ∷
    valid (text (codes "fo")) ∷
    invalid (text (codes "f")) ∷
    valid (int (pos 1)) ∷
    invalid (text (240 ∷ 159 ∷ 146 ∷ 169 ∷ [])) ∷
    []) ∷
    []
