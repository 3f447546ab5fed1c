-- `pattern`, of the official test suite of JSON Schema. Made by tools/suite.
use Rattle.std.specs.Prelude.{true, List, [], ◌∷◌, codes}
use Rattle.sm_tree.specs.Node.{bool, text, object, no_members, member}
use Rattle.schema_suite.specs.Groups.{Group, group, invalid, valid}

abbrev pub pattern_groups : List Group
pattern_groups =
    -- pattern validation
    group (object (member (codes "pattern") (text (codes "^a*$")) no_members)) (
    valid (text (codes "aaa")) ∷
    invalid (text (codes "abc")) ∷
    valid (bool true) ∷
    []) ∷
    -- pattern is not anchored
    group (object (member (codes "pattern") (text (codes "a+")) no_members)) (
    valid (text (codes "xxaayy")) ∷
    []) ∷
    []
