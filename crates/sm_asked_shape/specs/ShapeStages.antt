-- How far a command over a shape of a model has come, over bytes alone: behind the graph of its model file a shape that has values; its
-- table, with what a store of patterns did for it; and that values of the shape are served.
use Rattle.std.specs.Prelude.{◌≡◌, ℕ, List, [], ◌∷◌, Contains, Some}
use Rattle.sm_shapes.specs.TableData.{TableData}
use Rattle.sm_codec.specs.Defaults.{filled}
use Rattle.sm_compile.specs.Answers.{StoreSeen, TableSeen, IsTableSeen}
use Rattle.sm_compile.specs.Compiled.{texts_of}
use Rattle.sm_compile.specs.Sound.{IsValueShape}
use Rattle.sm_compile.specs.declared.compiled.Served.{Served}
use Rattle.sm_compile.specs.declared.compiled.Served.TheVariants.{Yes}
use Rattle.sm_asked.specs.Loading.{Loaded}
use Rattle.sm_asked.specs.Stages.{Told}

-- the model file comes to a graph, which has a shape of this id with values
pub record ShapeThere (t : Told) (name shape : List ℕ) : Type 0 where
  pub loaded : Loaded t.files (name ∷ [])
  pub is : IsValueShape loaded.graph shape

-- its table over the store as it was, of whose patterns the store refuses none
pub record TableMade (t : Told) (name shape : List ℕ) : Type 0 where
  pub there : ShapeThere t name shape
  pub now : StoreSeen
  pub one : TableSeen
  pub compiled : IsTableSeen there.loaded.graph shape t.test t.store now one
  pub free : (u : List ℕ) → t.refused ≡ Some u → Contains (texts_of one.table.patterns) u → ⊥

-- its values can be carried
pub record ShapeServed (t : Told) (name shape : List ℕ) : Type 0 where
  pub table : TableMade t name shape
  pub served : Path Served table.one.served Yes

-- the table that counts: with the defaults that count
abbrev pub table_of : (t : Told) (name shape : List ℕ) → TableMade t name shape → TableData
table_of t name shape h = filled h.one.table t.test
