-- `minItems`, of the official test suite of JSON Schema. Made by tools/suite.
use Rattle.std.specs.Prelude.{pos, List, [], ◌∷◌, codes}
use Rattle.sm_tree.specs.Node.{int, text, list, object, no_nodes, node, no_members, member}
use Rattle.schema_suite.specs.Groups.{Group, group, invalid, valid}

abbrev pub min_items_groups : List Group
min_items_groups =
    -- minItems validation
    group (object (member (codes "minItems") (int (pos 1)) no_members)) (
    valid (list (node (int (pos 1)) (node (int (pos 2)) no_nodes))) ∷
    valid (list (node (int (pos 1)) no_nodes)) ∷
    invalid (list no_nodes) ∷
    valid (text (codes "")) ∷
    []) ∷
    []
