-- What is written for what stands at a number.
use Rattle.std.specs.Prelude.{◌≡◌, ℕ, Bool, List, ◌++◌}
use Rattle.std.specs.FinMap as fin
use Rattle.sm_model.specs.Graphs.{ShapeMap, Entry, shape_entry, member_entry}
use Rattle.sm_idl.specs.Written.{member_there, shape_text}

-- what is written for a member, by its id
abbrev pub member_at : Bool → ShapeMap → List ℕ → List ℕ
member_at targets shapes id = member_there targets id (fin.get shapes id)

-- it is a shape, whose text stands behind what stood before
abbrev pub IsShapeText : ShapeMap → List ℕ → List ℕ → List ℕ → Entry → Type 0
IsShapeText shapes name before now (shape_entry s) =
    now ≡ before ++ shape_text shapes name s.kind s.members s.properties (fin.entries s.traits)
IsShapeText shapes name before now (member_entry m) = ⊥
