-- What the steps of the command `schema` come to.
use Rattle.std.specs.Prelude.{◌≡◌, ℕ, Bool, List}
use Rattle.sm_tree.specs.Node.{Node}
use Rattle.sm_model.specs.Graphs.{GraphMaps}
use Rattle.sm_notes.specs.TableShapes.{AreNotesOf}
use Rattle.sm_shapes.specs.TableData.{TableData}
use Rattle.sm_schema.specs.Described.{IsSchema}
use Rattle.sm_schema.specs.Noted.{IsNotedSchema, NotesData}
use Rattle.sm_schema_command.specs.Schema.{schema_text}

-- a text is that of the schema of the shape s of a table
abbrev pub IsSchemaText : TableData → Bool → ℕ → List ℕ → Type 0
IsSchemaText t json_names s text = (tree : Node) × IsSchema t json_names s tree × (text ≡ schema_text tree)

-- or of the schema with what the graph says of what the shape reaches
pub record IsNotedText (g : GraphMaps) (root : List ℕ) (t : TableData) (json_names : Bool) (s : ℕ) (text : List ℕ) : Type 0 where
  pub notes : NotesData
  pub are : AreNotesOf g root notes
  pub tree : Node
  pub is : IsNotedSchema t json_names notes s tree
  pub text_is : text ≡ schema_text tree
