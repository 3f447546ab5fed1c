-- What stands before a shape of a model whose values are served. The decisions stand in their order: the model file, the shape, its
-- patterns, whether its values are served. Of each shape of a model that is loaded a table can be made.
use Rattle.std.specs.Prelude.{◌≡◌, ℕ, List, [], ◌∷◌, Some}
use Rattle.sm_compile.specs.Compiled.{IsFirstCarrier}
use Rattle.sm_compile.specs.Reached.{IsReached}
use Rattle.sm_compile.specs.Sound.{IsValueShape}
use Rattle.sm_compile.specs.declared.compiled.Served.{Served}
use Rattle.sm_compile.specs.declared.compiled.Served.TheVariants.{Unserved}
use Rattle.sm_lines.specs.Lines.{unserved_line}
use Rattle.sm_asked.specs.Answer.{Answer, refused, pattern_refused}
use Rattle.sm_asked.specs.Lines.{no_shape_line, pattern_line}
use Rattle.sm_asked.specs.Loading.{Loaded, LoadAnswers}
use Rattle.sm_asked.specs.Stages.{Told}
use Rattle.sm_asked.specs.declared.lines.Shown.TheVariants.{Errors}
use Rattle.sm_asked_shape.specs.ShapeStages.{ShapeThere, TableMade}

pub data ShapeAnswers (t : Told) (name shape : List ℕ) (a : Answer) : Type 0 where
  not_loaded : LoadAnswers Errors t.files (name ∷ []) a → ShapeAnswers t name shape a
  no_shape : (loaded : Loaded t.files (name ∷ [])) → (IsValueShape loaded.graph shape → ⊥) → a ≡ refused (no_shape_line shape)
      → ShapeAnswers t name shape a
  pattern : (there : ShapeThere t name shape) → (u id : List ℕ) → t.refused ≡ Some u
      → IsFirstCarrier there.loaded.graph (IsReached there.loaded.graph shape) u id → a ≡ pattern_refused (pattern_line id)
      → ShapeAnswers t name shape a
  unserved : (table : TableMade t name shape) → (path : List ℕ) → Path Served table.one.served (Unserved path)
      → a ≡ refused (unserved_line path) → ShapeAnswers t name shape a
