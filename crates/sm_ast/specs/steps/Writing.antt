-- What is written for what stands at a number.
use Rattle.std.specs.Prelude.{◌≡◌}
use Rattle.sm_tree.specs.Node.{Node}
use Rattle.sm_model.specs.Graphs.{ShapeMap, Entry, shape_entry, member_entry}
use Rattle.sm_ast.specs.Written.{written_shape}

-- it is a shape, for which this is written
abbrev pub IsWrittenShape : ShapeMap → Node → Entry → Type 0
IsWrittenShape shapes n (shape_entry s) = written_shape shapes s ≡ n
IsWrittenShape shapes n (member_entry m) = ⊥
