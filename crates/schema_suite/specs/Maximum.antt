-- `maximum`, of the official test suite of JSON Schema. Made by tools/suite.
use Rattle.std.specs.Prelude.{List, [], ◌∷◌, codes}
use Rattle.sm_tree.specs.Node.{number, text, object, no_members, member}
use Rattle.schema_suite.specs.Groups.{Group, group, invalid, valid}

abbrev pub maximum_groups : List Group
maximum_groups =
    -- maximum validation
    group (object (member (codes "maximum") (number (codes "3.0")) no_members)) (
    valid (number (codes "2.6")) ∷
    valid (number (codes "3.0")) ∷
    invalid (number (codes "3.5")) ∷
    valid (text (codes "x")) ∷
    []) ∷
    []
