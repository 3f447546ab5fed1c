-- What encoding answers: the written tree, which spells the value, and the first leaf that isn't carried.
use Rattle.std.specs.Prelude.{Bool, true, false, List, [], ◌∷◌, Option, Some, None}
use Rattle.sm_tree.specs.Node.{Node}
use Rattle.sm_tree.specs.declared.path.Step.{Step}
use Rattle.sm_shapes.specs.Values.{Val}
use Rattle.sm_shapes.specs.TableData.{TableData}
use Rattle.sm_shapes.specs.Places.{Place}
use Rattle.sm_shapes.specs.Fitting.{Test, Fits}
use Rattle.sm_codec.specs.Convention.{Convention}
use Rattle.sm_codec.specs.Spelling.{Spells}

-- the tree spells the value by each test of patterns by which the value fits
abbrev pub SpellsByEachTest : TableData → Convention → Place → Val → Node → Type 0
SpellsByEachTest t l p v n =
    (test : Test) → Fits t test p v → Spells (record { table = t; convention = l; test = test }) p v n

-- the first path of a list, if any
abbrev pub first_path : List (List Step) → Option (List Step)
first_path [] = None
first_path (path ∷ paths) = Some path

abbrev pub are_none : List (List Step) → Bool
are_none [] = true
are_none (path ∷ paths) = false
