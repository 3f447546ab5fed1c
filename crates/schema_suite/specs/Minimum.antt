-- `minimum`, of the official test suite of JSON Schema. Made by tools/suite.
use Rattle.std.specs.Prelude.{List, [], ◌∷◌, codes}
use Rattle.sm_tree.specs.Node.{number, text, object, no_members, member}
use Rattle.schema_suite.specs.Groups.{Group, group, invalid, valid}

abbrev pub minimum_groups : List Group
minimum_groups =
    -- minimum validation
    group (object (member (codes "minimum") (number (codes "1.1")) no_members)) (
    valid (number (codes "2.6")) ∷
    valid (number (codes "1.1")) ∷
    invalid (number (codes "0.6")) ∷
    valid (text (codes "x")) ∷
    []) ∷
    []
