-- What loading a shape of a model file comes to: its table, by which values can be read and written, or what stands before it.
use Rattle.std.specs.Prelude.{◌≡◌, ◌<◌, ℕ, List, Option, None, Some, Result, Ok, Err}
use Rattle.sm_io.specs.Causes.{Rose}
use Rattle.sm_io.specs.Seen.{FilesSeen}
use Rattle.sm_shapes.specs.Fitting.{Test}
use Rattle.sm_shapes.specs.InOrder.{Shaped, AreStored, DefaultsPass}
use Rattle.sm_shapes.specs.TableData.{TableData, shape_count}
use Rattle.sm_shapes.specs.TableView.{table_data}
use Rattle.sm_compile.specs.Answers.{StoreSeen}
use Rattle.sm_asked.specs.Answer.{Answer}
use Rattle.sm_asked.specs.CommandAsked.{RefusedBy}
use Rattle.sm_asked.specs.Comes.{StepStops}
use Rattle.sm_asked.specs.Stages.{Told, told}
use Rattle.sm_asked.specs.declared.status.Status.TheVariants.{Pattern}
use Rattle.sm_asked.specs.declared.stop.CommandStop.{CommandStop}
use Rattle.sm_asked_shape.specs.ShapeAnswers.{ShapeAnswers}
use Rattle.sm_asked_shape.specs.ShapeStages.{ShapeServed, table_of}
use Rattle.sm_asked_shape.specs.declared.shape.LoadedShape.{LoadedShape}

-- values of the shape with this number can be read and written by the table
pub record IsReadable (t : TableData) (s : ℕ) (test : Test) (added : List (List ℕ)) : Type 0 where
  pub shaped : Shaped t
  pub pass : DefaultsPass t test
  pub stored : AreStored t.patterns added
  pub number : s < shape_count t

-- the values of the shape are served, and this is its table, with its number in it
pub record IsLoadedShape (t : Told) (name shape : List ℕ) (one : LoadedShape) : Type 0 where
  pub served : ShapeServed t name shape
  pub table : Path TableData (table_data one.table) (table_of t name shape served.table)
  pub number : one.shape ≡ served.table.one.shape

-- this answer stands before it, whatever the input is. Where a pattern was refused, that is the answer
pub record StandsBefore (files : FilesSeen) (test : Test) (store store1 : StoreSeen) (name shape : List ℕ) (a : Answer) : Type 0 where
  pub pattern : Option (List ℕ)
  pub by : RefusedBy store store1 pattern
  pub only : (u : List ℕ) → pattern ≡ Some u → a.status ≡ Pattern
  pub says : (input : Option (List ℕ)) → ShapeAnswers (told files.held input test store pattern) name shape a

abbrev pub LoadsShape : FilesSeen → FilesSeen → Test → StoreSeen → StoreSeen → List ℕ → List ℕ → Result LoadedShape CommandStop → Type 0
LoadsShape files files1 test store store1 name shape (Ok one) =
    (store1.refusals ≡ store.refusals)
    × ((input : Option (List ℕ)) → IsLoadedShape (told files.held input test store None) name shape one)
LoadsShape files files1 test store store1 name shape (Err stop) =
    StepStops (StandsBefore files test store store1 name shape)
    (Rose files.read_faults files1.read_faults × (store1.refusals ≡ store.refusals)) (Unit {0}) stop
