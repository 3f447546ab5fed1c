-- What making the table of a shape of a graph comes to, and filling its defaults where the shape is served.
use Rattle.std.specs.Prelude.{◌≡◌, ℕ, ◌<◌, List, Result, Ok, Err}
use Rattle.sm_model.specs.Graphs.{GraphMaps}
use Rattle.sm_shapes.specs.DefaultPuts.{HasNoDefault}
use Rattle.sm_shapes.specs.Fitting.{Test}
use Rattle.sm_shapes.specs.InOrder.{Shaped, AreStored}
use Rattle.sm_shapes.specs.TableData.{TableData, shape_count}
use Rattle.sm_shapes.specs.TableView.{table_data}
use Rattle.sm_codec.specs.Defaults.{filled}
use Rattle.sm_compile.specs.Answers.{StoreSeen, IsShapeCompiled, IsPatternRefused}
use Rattle.sm_compile.specs.Sound.{IsValueShape}
use Rattle.sm_compile.specs.declared.compiled.OneShape.{OneShape}
use Rattle.sm_compile.specs.declared.compiled.Served.{Served}
use Rattle.sm_compile.specs.declared.compiled.Served.TheVariants.{Yes, Unserved}
use Rattle.sm_lines.specs.Lines.{unserved_line}
use Rattle.sm_asked.specs.Answer.{Answer, refused, pattern_refused}
use Rattle.sm_asked.specs.Comes.{StepStops}
use Rattle.sm_asked.specs.Lines.{no_shape_line, pattern_line}
use Rattle.sm_asked.specs.declared.stop.CommandStop.{CommandStop}
use Rattle.sm_asked_shape.specs.LoadsShape.{IsReadable}
use Rattle.sm_asked_shape.specs.declared.shape.LoadedShape.{LoadedShape}

-- what a graph comes to for a shape that has no table, with what the store did
pub data ShapeSays (g : GraphMaps) (shape : List ℕ) (before now : StoreSeen) (a : Answer) : Type 0 where
  lacks : (IsValueShape g shape → ⊥) → now.refusals ≡ before.refusals → a ≡ refused (no_shape_line shape)
      → ShapeSays g shape before now a
  refuses : IsValueShape g shape → (id : List ℕ) → IsPatternRefused g shape before now id
      → a ≡ pattern_refused (pattern_line id) → ShapeSays g shape before now a

-- a table of a shape
pub record HasTableOf (g : GraphMaps) (shape : List ℕ) (test : Test) (before now : StoreSeen) (one : OneShape) : Type 0 where
  pub is : IsValueShape g shape
  pub compiled : IsShapeCompiled g shape test before now one

abbrev pub MakesTable : GraphMaps → List ℕ → Test → StoreSeen → StoreSeen → Result OneShape CommandStop → Type 0
MakesTable g shape test before now (Ok one) = HasTableOf g shape test before now one
MakesTable g shape test before now (Err stop) = StepStops (ShapeSays g shape before now) ⊥ (Unit {0}) stop

-- a table by which values can be read, once its defaults are filled
pub record IsReady (t : TableData) (s : ℕ) (added : List (List ℕ)) : Type 0 where
  pub shaped : Shaped t
  pub none : HasNoDefault t
  pub stored : AreStored t.patterns added
  pub number : s < shape_count t

-- the table with its defaults filled, where the shape is served
pub record IsFilledShape (one : OneShape) (test : Test) (added : List (List ℕ)) (made : LoadedShape) : Type 0 where
  pub served : Path Served one.served Yes
  pub table : Path TableData (table_data made.table) (filled (table_data one.table) test)
  pub number : made.shape ≡ one.shape
  pub readable : IsReadable (table_data made.table) made.shape test added

-- that it isn't served
abbrev pub IsUnserved : OneShape → Answer → Type 0
IsUnserved one a = (path : List ℕ) × Path Served one.served (Unserved path) × (a ≡ refused (unserved_line path))

abbrev pub FillsShape : OneShape → Test → List (List ℕ) → Result LoadedShape CommandStop → Type 0
FillsShape one test added (Ok made) = IsFilledShape one test added made
FillsShape one test added (Err stop) = StepStops (IsUnserved one) ⊥ (Unit {0}) stop
