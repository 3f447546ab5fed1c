-- What compiling a shape that is named in a graph comes to: a table, or what is told in its place.
use Rattle.std.proofs.Common.{◌≡◌, ℕ, List, Ok, Err, sym, ap, subst, refl}
use Rattle.sm_model.specs.Graphs.{GraphMaps}
use Rattle.sm_shapes.specs.Fitting.{Test}
use Rattle.sm_shapes.specs.TableView.{table_data}
use Rattle.sm_compile.specs.Answers.{StoreSeen, CompilesShape, IsPatternRefused, IsShapeCompiled, seen_table}
use Rattle.sm_compile.specs.Sound.{IsValueShape}
use Rattle.sm_compile.specs.declared.compiled.CompileRefusal.TheVariants.{NoShape, Pattern as is_pattern}
use Rattle.sm_compile.specs.declared.compiled.OneShape.{OneShape}
use Rattle.sm_asked.specs.Comes.{EndsWithLine, EndsWithPattern}
use Rattle.sm_asked.specs.Lines.{no_shape_line, pattern_line}
use Rattle.sm_asked.specs.declared.stop.CommandStop.{CommandStop}
use Rattle.sm_asked.proofs.Stops.{line_stops, pattern_stops}
use Rattle.sm_asked_shape.specs.ShapeTables.{ShapeSays, HasTableOf, MakesTable, IsReady}
use Rattle.sm_asked_shape.specs.ShapeTables.ShapeSays.{lacks, refuses}
use Rattle.sm_asked_shape.proofs.TablesMade.{number_within}

-- a shape that has no table: it isn't there, or a pattern is refused
pub shape_lacks : (g : GraphMaps) (shape : List ℕ) (test : Test) (before now : StoreSeen) (stop : CommandStop) → (IsValueShape g shape → ⊥)
    → now.refusals ≡ before.refusals → EndsWithLine (no_shape_line shape) stop → MakesTable g shape test before now (Err stop)
shape_lacks g shape test before now stop none count ends =
    line_stops (ShapeSays g shape before now) ⊥ (Unit {0}) (no_shape_line shape) stop (lacks none count refl) tt ends

-- by what compiling answers for the id as it is borrowed
module _ (g : GraphMaps) (id shape : List ℕ) (test : Test) (before now : StoreSeen) (e : id ≡ shape) where
  pub compiled_table : (one : OneShape) → CompilesShape g shape test before now (Ok one) → HasTableOf g id test before now one
  compiled_table one h =
      record {
        is = subst (IsValueShape g) (sym e) h.0;
        compiled = subst (λ x. IsShapeCompiled g x test before now one) (sym e) h.1;
      }

  pub compiled_lacks : (stop : CommandStop) → CompilesShape g shape test before now (Err NoShape) → EndsWithLine (no_shape_line id) stop
      → MakesTable g id test before now (Err stop)
  compiled_lacks stop h ends =
      shape_lacks g id test before now stop (λ there. h.0 (subst (IsValueShape g) e there)) (ap (λ (x : StoreSeen). x.refusals) h.1) ends

  pub compiled_refused : (carrier : List ℕ) (stop : CommandStop) → CompilesShape g shape test before now (Err (is_pattern carrier))
      → EndsWithPattern (pattern_line carrier) stop → MakesTable g id test before now (Err stop)
  compiled_refused carrier stop h ends =
      pattern_stops (ShapeSays g id before now) ⊥ (Unit {0}) (pattern_line carrier) stop
      (refuses (subst (IsValueShape g) (sym e) h.0) carrier (subst (λ x. IsPatternRefused g x before now carrier) (sym e) h.1) refl)
      tt ends

-- a table that was made is one to read by
pub table_ready : (g : GraphMaps) (shape : List ℕ) (test : Test) (before now : StoreSeen) (one : OneShape)
    → HasTableOf g shape test before now one → IsReady (table_data one.table) one.shape now.added
table_ready g shape test before now one h = record {
  shaped = h.compiled.shaped;
  none = h.compiled.no_default;
  stored = h.compiled.built.stored;
  number = number_within g shape test before now (seen_table one) h.compiled;
}
