-- A model file and a store come to one answer of the command `schema`, and to some.
use Rattle.std.proofs.Common.{◌≡◌, ◌<◌, ℕ, Bool, true, false, List, [], ◌∷◌, Some, sym, ap, subst, ◌∙◌, refl}
use Rattle.sm_io.specs.Files.{Folder}
use Rattle.sm_tree.specs.Node.{Node}
use Rattle.sm_shapes.specs.TableData.{TableData, shape_count}
use Rattle.sm_codec.specs.FilledLaws.{IsFilled}
use Rattle.sm_compile.specs.Laws.{SomeTable}
use Rattle.sm_asked_shape.specs.load.Laws.{SomeLoad, SoundModels}
use Rattle.sm_schema.specs.Described.{IsSchema}
use Rattle.sm_schema.specs.Noted.{IsNotedSchema, NotesData}
use Rattle.sm_schema.specs.SchemaLaws.{OneNotedSchema, OneSchema, SomeNotedSchema, SomeSchema}
use Rattle.sm_asked_shape.specs.asked.Answer.{Answer, done}
use Rattle.sm_asked_shape.specs.asked.AskedLaws.{AreThere}
use Rattle.sm_asked_shape.specs.asked.Stages.{Told}
use Rattle.sm_asked_shape.proofs.asked.ToldAll.{IsToldWhole}
use Rattle.sm_asked_shape.specs.ShapeStages.{ShapeServed, TableMade, table_of}
use Rattle.sm_asked_shape.proofs.OneShape.{shape_apart, shape_same, tables_same}
use Rattle.sm_asked_shape.proofs.SomeShape.{shape_answered}
use Rattle.sm_asked_shape.proofs.TablesMade.{is_filled, number_within}
use Rattle.sm_codec.specs.Defaults.{filled}
use Rattle.sm_schema_command.specs.Schema.{IsTreeOf, SchemaSays, notes_of, schema_text}
use Rattle.sm_schema_command.specs.Schema.SchemaSays.{not_served, printed}
use Rattle.sm_schema_command.proofs.NotesSame.{notes_same}

module _ (one : OneSchema) (noted : OneNotedSchema) (t : Told) (whole : IsToldWhole t) (name shape : List ℕ) (json_names : Bool) where
  tree_same : (described : Bool) (h i : TableMade t name shape) (m n : Node) → IsTreeOf t name shape h json_names described m
      → IsTreeOf t name shape i json_names described n → m ≡ n
  tree_same false h i m n is also =
      let same = tables_same t whole name shape h i in
      one (table_of t name shape i) json_names i.one.shape m n
      (subst (λ s. IsSchema (table_of t name shape i) json_names s m) same.1
      (subst (λ (d : TableData). IsSchema (filled d t.test) json_names h.one.shape m) same.0 is)) also
  tree_same true h i m n is also =
      let same = tables_same t whole name shape h i in
      noted (table_of t name shape i) json_names (notes_of t name shape i) i.one.shape m n
      (subst (λ (x : NotesData). IsNotedSchema (table_of t name shape i) json_names x i.one.shape m) (notes_same t whole name shape h i)
      (subst (λ s. IsNotedSchema (table_of t name shape i) json_names (notes_of t name shape h) s m) same.1
      (subst (λ (d : TableData). IsNotedSchema (filled d t.test) json_names (notes_of t name shape h) h.one.shape m) same.0 is))) also

  pub schema_same : (described : Bool) (a b : Answer) → SchemaSays t name shape json_names described a
      → SchemaSays t name shape json_names described b → a ≡ b
  schema_same described a b (not_served h) (not_served i) = shape_same t whole name shape a b h i
  schema_same described a b (not_served h) (printed served tree is e) = absurd (shape_apart t whole name shape a h served)
  schema_same described a b (printed served tree is e) (not_served i) = absurd (shape_apart t whole name shape b i served)
  schema_same described a b (printed served tree is e) (printed other also has f) =
      e ∙ ap (λ n. done (schema_text n)) (tree_same described served.table other.table tree also is has) ∙ sym f

pub schema_answered : SomeSchema → SomeNotedSchema → SomeTable → SomeLoad → SoundModels → (t : Told) (folder : Folder)
    → t.files ≡ Some folder → (name shape : List ℕ) (json_names described : Bool) → AreThere folder (name ∷ [])
    → ((a : Answer) → SchemaSays t name shape json_names described a → ⊥) → ⊥
schema_answered some some_noted tables loads models t folder files name shape json_names described there none =
    shape_answered tables loads models t folder files name shape there (λ a says. none a (not_served says)) (λ served. by_schema served)
  where
    by_schema : ShapeServed t name shape → ⊥
    by_schema served =
        let h = served.table in
        let ready : IsFilled (table_of t name shape h) t.test =
        is_filled h.there.loaded.graph shape t.test t.store h.now h.one h.compiled in
        let within = number_within h.there.loaded.graph shape t.test t.store h.now h.one h.compiled in
        let made = by described ready within in none (done (schema_text made.0)) (printed served made.0 made.1 refl)
      where
        by : (b : Bool) → IsFilled (table_of t name shape served.table) t.test
            → served.table.one.shape < shape_count (table_of t name shape served.table)
            → (tree : Node) × IsTreeOf t name shape served.table json_names b tree
        by false ready within = some (table_of t name shape served.table) json_names served.table.one.shape ready.shaped within
        by true ready within =
            some_noted (table_of t name shape served.table) json_names (notes_of t name shape served.table) served.table.one.shape
            ready.shaped within
