-- What the command `schema` comes to, over bytes alone: what stands before a shape whose values are served; else the schema of that shape,
-- by its table with the defaults that count, as its one text of JSON with a line feed. Where it is asked for, what the model says to people
-- stands in the schema.
use Rattle.std.specs.Prelude.{◌≡◌, ◌++◌, ℕ, Bool, true, false, List, [], ◌∷◌}
use Rattle.sm_bytes.specs.Ascii.{line_feed}
use Rattle.sm_tree.specs.Node.{Node}
use Rattle.sm_json.specs.Written.{written}
use Rattle.sm_notes.specs.NotesSaid.{notes_said}
use Rattle.sm_schema.specs.Described.{IsSchema}
use Rattle.sm_schema.specs.Noted.{IsNotedSchema, NotesData}
use Rattle.sm_asked_shape.specs.asked.Answer.{Answer, done}
use Rattle.sm_asked_shape.specs.asked.CommandAsked.{CommandAsked}
use Rattle.sm_asked_shape.specs.asked.Stages.{Told}
use Rattle.sm_asked_shape.specs.OverShape.{over_shape}
use Rattle.sm_asked_shape.specs.ShapeAnswers.{ShapeAnswers}
use Rattle.sm_asked_shape.specs.ShapeStages.{ShapeServed, TableMade, table_of}

abbrev pub schema_text : Node → List ℕ
schema_text tree = written tree ++ line_feed ∷ []

-- what the graph says to people of the shapes and the members of the table
abbrev pub notes_of : (t : Told) (name shape : List ℕ) → TableMade t name shape → NotesData
notes_of t name shape h = notes_said h.there.loaded.graph h.compiled.numbering

-- the tree is the schema of the shape, with what is said of it or without
abbrev pub IsTreeOf : (t : Told) (name shape : List ℕ) → TableMade t name shape → Bool → Bool → Node → Type 0
IsTreeOf t name shape h json_names false tree = IsSchema (table_of t name shape h) json_names h.one.shape tree
IsTreeOf t name shape h json_names true tree =
    IsNotedSchema (table_of t name shape h) json_names (notes_of t name shape h) h.one.shape tree

-- what the command comes to, in this order
pub data SchemaSays (t : Told) (name shape : List ℕ) (json_names described : Bool) (a : Answer) : Type 0 where
  not_served : ShapeAnswers t name shape a → SchemaSays t name shape json_names described a
  printed : (served : ShapeServed t name shape) → (tree : Node) → IsTreeOf t name shape served.table json_names described tree
      → a ≡ done (schema_text tree) → SchemaSays t name shape json_names described a

abbrev pub schema_asked : List ℕ → List ℕ → Bool → Bool → CommandAsked
schema_asked model shape json_names described = over_shape model (λ t a. SchemaSays t model shape json_names described a)
