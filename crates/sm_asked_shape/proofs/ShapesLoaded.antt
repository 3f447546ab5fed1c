-- What loading a shape comes to, from what its model file, its table and its defaults come to.
use Rattle.std.proofs.Common.{◌≡◌, ℕ, List, [], ◌∷◌, Option, Some, None, Ok, Err, ap, subst, ◌∙◌, refl, arith}
use Rattle.std.specs.Prelude.{Result, IfOk}
use Rattle.sm_io.specs.Causes.{Rose}
use Rattle.sm_io.specs.Seen.{FilesSeen}
use Rattle.sm_model.specs.GraphView.{maps_of}
use Rattle.sm_asked.specs.load.declared.model.Model.{Model}
use Rattle.sm_shapes.specs.Fitting.{Test}
use Rattle.sm_shapes.specs.TableView.{table_data}
use Rattle.sm_compile.specs.Answers.{StoreSeen, seen_table}
use Rattle.sm_compile.specs.declared.compiled.OneShape.{OneShape}
use Rattle.sm_compile.specs.declared.compiled.Served.{Served}
use Rattle.sm_compile.specs.declared.compiled.Served.TheVariants.{Unserved}
use Rattle.sm_lines.specs.Lines.{unserved_line}
use Rattle.sm_asked.specs.Answer.{Answer}
use Rattle.sm_asked.specs.Comes.{EndsWithLine}
use Rattle.sm_asked.specs.Loading.{Loaded, LoadAnswers, Loads}
use Rattle.sm_asked.specs.Stages.{told}
use Rattle.sm_asked.specs.declared.lines.Shown.TheVariants.{Errors}
use Rattle.sm_asked.specs.declared.stop.CommandStop.{CommandStop}
use Rattle.sm_asked.proofs.Answered.{none_is_some}
use Rattle.sm_asked.proofs.Stops.{line_stops, stops_map}
use Rattle.sm_asked_shape.specs.LoadsShape.{IsReadable, StandsBefore, LoadsShape}
use Rattle.sm_asked_shape.specs.ShapeAnswers.ShapeAnswers.{not_loaded, no_shape, pattern, unserved}
use Rattle.sm_asked_shape.specs.ShapeStages.{TableMade}
use Rattle.sm_asked_shape.specs.declared.shape.LoadedShape.{LoadedShape}
use Rattle.sm_asked_shape.specs.ShapeTables.{ShapeSays, HasTableOf, MakesTable, IsUnserved, FillsShape}
use Rattle.sm_asked_shape.specs.ShapeTables.ShapeSays.{lacks, refuses}

-- a shape that isn't served
pub unserved_stops : (one : OneShape) (test : Test) (added : List (List ℕ)) (path : List ℕ) (stop : CommandStop)
    → Path Served one.served (Unserved path) → EndsWithLine (unserved_line path) stop → FillsShape one test added (Err stop)
unserved_stops one test added path stop served ends =
    line_stops (IsUnserved one) ⊥ (Unit {0}) (unserved_line path) stop (path, served, refl) tt ends

-- a model file that isn't loaded
pub file_stops : (files files1 : FilesSeen) (test : Test) (store : StoreSeen) (name shape : List ℕ) (stop : CommandStop)
    → Loads Errors files files1 (name ∷ []) (Err stop) → LoadsShape files files1 test store store name shape (Err stop)
file_stops files files1 test store name shape stop h =
    stops_map (LoadAnswers Errors files.held (name ∷ [])) (StandsBefore files test store store name shape)
    (Rose files.read_faults files1.read_faults) (Rose files.read_faults files1.read_faults × (store.refusals ≡ store.refusals)) (Unit {0})
    (Unit {0}) stop
    (λ a says. record { pattern = None; by = refl; only = λ u e. none_is_some u e; says = λ input. not_loaded says })
    (λ rose. (rose, refl)) (λ short. short) h

module _ (files files1 : FilesSeen) (test : Test) (store store1 : StoreSeen) (name shape : List ℕ) where
  -- a shape without a table
  lacking : (loaded : Loaded files.held (name ∷ [])) (a : Answer) → ShapeSays loaded.graph shape store store1 a
      → StandsBefore files test store store1 name shape a
  lacking loaded a (lacks none count is) =
      record { pattern = None; by = count; only = λ u e. none_is_some u e; says = λ input. no_shape loaded none is }
  lacking loaded a (refuses there id h is) = record {
    pattern = Some h.text;
    by = (rose, h.refused);
    only = λ u e. ap (λ (x : Answer). x.status) is;
    says = λ input. pattern (record { loaded = loaded; is = there }) h.text id refl h.carrier is;
  }
    where
      rose : Rose store.refusals store1.refusals
      rose = omega (arith, h.refusals)

  pub shape_refused : (m : Model) (stop : CommandStop) → Loads Errors files files1 (name ∷ []) (Ok m)
      → MakesTable (maps_of m.graph) shape test store store1 (Err stop) → LoadsShape files files1 test store store1 name shape (Err stop)
  shape_refused m stop loads h =
      stops_map (ShapeSays (maps_of m.graph) shape store store1) (StandsBefore files test store store1 name shape) ⊥
      (Rose files.read_faults files1.read_faults × (store1.refusals ≡ store.refusals)) (Unit {0}) (Unit {0}) stop
      (λ a says. lacking loads.0 a (subst (λ g. ShapeSays g shape store store1 a) loads.1 says)) (λ never. absurd never) (λ short. short) h

  -- a shape with its table
  abbrev made_of : (input : Option (List ℕ)) (loaded : Loaded files.held (name ∷ [])) (now : StoreSeen) (one : OneShape)
      → HasTableOf loaded.graph shape test store now one → TableMade (told files.held input test store None) name shape
  made_of input loaded now one h = record {
    there = record { loaded = loaded; is = h.is };
    now = now;
    one = seen_table one;
    compiled = h.compiled;
    free = λ u e among. none_is_some u e;
  }

  pub shape_loaded : (m : Model) (now : StoreSeen) (one : OneShape) (result : Result LoadedShape CommandStop)
      → Loads Errors files files1 (name ∷ []) (Ok m) → HasTableOf (maps_of m.graph) shape test store now one
      → store1.refusals ≡ now.refusals → FillsShape one test store1.added result
      → LoadsShape files files1 test store store1 name shape result
  shape_loaded m now one (Ok made) loads h same fills =
      let table : HasTableOf loads.0.graph shape test store now one = subst (λ g. HasTableOf g shape test store now one) loads.1 h in (
        same ∙ h.compiled.refusals,
        λ input. record {
          served = record { table = made_of input loads.0 now one table; served = fills.served };
          table = fills.table;
          number = fills.number;
        },
      )
  shape_loaded m now one (Err stop) loads h same fills =
      let table : HasTableOf loads.0.graph shape test store now one = subst (λ g. HasTableOf g shape test store now one) loads.1 h in
      stops_map (IsUnserved one) (StandsBefore files test store store1 name shape) ⊥
      (Rose files.read_faults files1.read_faults × (store1.refusals ≡ store.refusals)) (Unit {0}) (Unit {0}) stop
      (λ a says. record {
        pattern = None;
        by = same ∙ h.compiled.refusals;
        only = λ u e. none_is_some u e;
        says = λ input. unserved (made_of input loads.0 now one table) says.0 says.1 says.2;
      })
      (λ never. absurd never) (λ short. short) fills

-- it can be read by
pub shape_readable : (one : OneShape) (test : Test) (added : List (List ℕ)) (result : Result LoadedShape CommandStop)
    → FillsShape one test added result → IfOk result (λ made. IsReadable (table_data made.table) made.shape test added)
shape_readable one test added (Ok made) h = h.readable
shape_readable one test added (Err stop) h = tt
