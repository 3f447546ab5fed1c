-- What all definitions of the codec are over: a table, a convention of leaves, and the test of patterns.
use Rattle.std.specs.Prelude.{ℕ, ◌<◌, List}
use Rattle.sm_shapes.specs.Values.{Val}
use Rattle.sm_shapes.specs.TableData.{TableData, shape_count, member_count}
use Rattle.sm_shapes.specs.Places.{Place, root_place, member_place, shape_of, kind_of, constraints_of}
use Rattle.sm_shapes.specs.Broken.{broken}
use Rattle.sm_shapes.specs.Fitting.{Test, finder}
use Rattle.sm_shapes.specs.declared.fault.FaultKind.{FaultKind}
use Rattle.sm_codec.specs.Convention.{Convention}
use Rattle.sm_codec.specs.Sorts.{Sort, sort_of}

pub record Codec : Type 0 where
  pub table : TableData
  pub convention : Convention
  pub test : Test

abbrev pub codec_of : TableData → Convention → Test → Codec
codec_of t l test = record { table = t; convention = l; test = test }

abbrev pub sort_at : Codec → Place → Sort
sort_at c p = sort_of c.table p

-- the name of a member on the wire; its name in a path is `name_at`
abbrev pub wire_name_in : TableData → Convention → Place → ℕ → List ℕ
wire_name_in t l p k = l.name t (shape_of t p) k

abbrev pub wire_name : Codec → Place → ℕ → List ℕ
wire_name c p k = wire_name_in c.table c.convention p k

-- the constraints that a value at a place breaks
abbrev pub broken_in : TableData → Test → Place → Val → List FaultKind
broken_in t test p v = broken (finder t test) (kind_of t p) (constraints_of t p) v

abbrev pub broken_at : Codec → Place → Val → List FaultKind
broken_at c p v = broken_in c.table c.test p v

-- the place is one of the table
abbrev pub InTable : TableData → Place → Type 0
InTable t (root_place s) = s < shape_count t
InTable t (member_place k) = k < member_count t
