-- A file that is there, and a store, come to some answer before a shape that is served, or to that shape. Where a case can't be decided,
-- each of its two sides is denied in turn.
use Rattle.std.proofs.Common.{◌≡◌, ℕ, List, [], ◌∷◌, Option, Some, sym, subst, refl}
use Rattle.std.specs.Prelude.{Contains}
use Rattle.sm_io.specs.Files.{Folder}
use Rattle.sm_compile.specs.Answers.{StoreSeen, TableSeen, IsTableSeen}
use Rattle.sm_compile.specs.Compiled.{IsFirstCarrier, texts_of}
use Rattle.sm_compile.specs.Laws.{SomeTable}
use Rattle.sm_compile.specs.Reached.{IsReached}
use Rattle.sm_compile.specs.Sound.{IsValueShape}
use Rattle.sm_compile.specs.declared.compiled.Served.{Served}
use Rattle.sm_compile.specs.declared.compiled.Served.TheVariants.{Yes, Unserved}
use Rattle.sm_compile.proofs.OnePatterns.{column_of}
use Rattle.sm_asked.specs.load.Laws.{SomeLoad, SoundModels}
use Rattle.sm_lines.specs.Lines.{unserved_line}
use Rattle.sm_asked.specs.Answer.{Answer, refused, pattern_refused}
use Rattle.sm_asked.specs.AskedLaws.{AreThere}
use Rattle.sm_asked.specs.Lines.{no_shape_line, pattern_line}
use Rattle.sm_asked.specs.Loading.{Loaded, LoadAnswers}
use Rattle.sm_asked.specs.Stages.{Told}
use Rattle.sm_asked.specs.declared.lines.Shown.TheVariants.{Errors}
use Rattle.sm_asked.proofs.SomeLoad.{load_answered}
use Rattle.sm_asked_shape.specs.ShapeAnswers.{ShapeAnswers}
use Rattle.sm_asked_shape.specs.ShapeAnswers.ShapeAnswers.{not_loaded, no_shape, pattern, unserved}
use Rattle.sm_asked_shape.specs.ShapeStages.{ShapeThere, TableMade, ShapeServed}
use Rattle.sm_asked_shape.proofs.LoadedSpelled.{loaded_spelled}

module _ (tables : SomeTable) (models : SoundModels) (t : Told) (name shape : List ℕ)
    (none : (a : Answer) → ShapeAnswers t name shape a → ⊥) (unread : ShapeServed t name shape → ⊥) where
  -- a table, by whether it is served
  by_served : (h : TableMade t name shape) → (served : Served) → Path Served h.one.served served → ⊥
  by_served h Yes e = unread (record { table = h; served = e })
  by_served h (Unserved path) e = none (refused (unserved_line path)) (unserved h path e refl)

  -- a shape: a pattern of its table is the one that is refused, or none is
  by_table : (h : ShapeThere t name shape) (now : StoreSeen) (one : TableSeen) → IsTableSeen h.loaded.graph shape t.test t.store now one → ⊥
  by_table h now one compiled = by_served made one.served (λ i. one.served)
    where
      free : (u : List ℕ) → t.refused ≡ Some u → Contains (texts_of one.table.patterns) u → ⊥
      free u is among =
          let g = h.loaded.graph in
          let patterns = compiled.compiled.patterns in
          let first = column_of (λ v id. IsFirstCarrier g (IsReached g shape) v id) (texts_of one.table.patterns) patterns.firsts
          patterns.each u among in
          none (pattern_refused (pattern_line first.0)) (pattern h u first.0 is first.2 refl)

      made : TableMade t name shape
      made = record { there = h; now = now; one = one; compiled = compiled; free = free }

  -- a graph without the shape, and with it: of each shape of a model that is accepted a table can be made
  by_graph : Loaded t.files (name ∷ []) → ⊥
  by_graph loaded = none (refused (no_shape_line shape)) (no_shape loaded (λ there. with_shape there) refl)
    where
      with_shape : IsValueShape loaded.graph shape → ⊥
      with_shape there =
          let h : ShapeThere t name shape = record { loaded = loaded; is = there } in
          tables loaded.graph shape t.test t.store (loaded_spelled t.files (name ∷ []) loaded) there
          (models loaded.texts.read loaded.graph loaded.accepted shape)
          (λ now one compiled. by_table h now one compiled)

-- what files that are told come to
abbrev FilesCome : Option Folder → List ℕ → Type 0
FilesCome files name = ((a : Answer) → LoadAnswers Errors files (name ∷ []) a → ⊥) → (Loaded files (name ∷ []) → ⊥) → ⊥

pub shape_answered : SomeTable → SomeLoad → SoundModels → (t : Told) (folder : Folder) → t.files ≡ Some folder
    → (name shape : List ℕ) → AreThere folder (name ∷ [])
    → ((a : Answer) → ShapeAnswers t name shape a → ⊥) → (ShapeServed t name shape → ⊥) → ⊥
shape_answered tables loads models t folder files name shape there none unread =
    let come : FilesCome t.files name = subst (λ x. FilesCome x name) (sym files) (load_answered loads Errors folder (name ∷ []) there) in
    come (λ a says. none a (not_loaded says)) (λ loaded. by_graph tables models t name shape none unread loaded)
