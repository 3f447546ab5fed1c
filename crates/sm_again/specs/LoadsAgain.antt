-- That what is written for a model loads to it again: to its graph, with its events; and that files which say the same statements load to
-- one model. How long a file may be is for who reads files: loading knows no such limit, but of levels.
use Rattle.std.specs.Prelude.{◌≡◌, ◌≤◌, ℕ, List, [], ◌∷◌, ◌++◌, Ok}
use Rattle.sm_bytes.specs.Ascii.{line_feed}
use Rattle.sm_ids.specs.Identifier.{IsNamespace}
use Rattle.sm_tree.specs.Levels.{levels}
use Rattle.sm_tree.specs.Limits.{most_levels}
use Rattle.sm_json.specs.Written.{written}
use Rattle.sm_model.specs.Formed.{StandsAmong}
use Rattle.sm_model.specs.GraphView.{maps_of}
use Rattle.sm_model.specs.Graphs.{GraphMaps}
use Rattle.sm_model.specs.Said.{Said}
use Rattle.sm_ast.specs.Written.{written_ast}
use Rattle.sm_merge.specs.Stated.{all_said}
use Rattle.sm_idl.specs.Written.{written_idl}
use Rattle.sm_load.specs.Loading.{LoadsTo}
use Rattle.sm_load.specs.ModelFiles.{EndsInJson, FileGiven, HaveStatements, file_given}
use Rattle.sm_load.specs.declared.model.Model.{Model}
use Rattle.sm_again.specs.WrittenMerges.{AreAllNamespaces, HasRoom}
use Rattle.sm_again.specs.WrittenTexts.{IsShallow}

-- the text of a graph in the JSON AST, with a line feed behind it
abbrev pub ast_text : GraphMaps → List ℕ
ast_text g = written (written_ast g) ++ line_feed ∷ []

-- where files load to a model, the file of its text in the JSON AST alone loads to it; its tree nests no more levels than are read
abbrev pub AstLoads : Type 0
AstLoads = (files : List FileGiven) (m : Model) (name : List ℕ) → LoadsTo files (Ok m)
    → levels (written_ast (maps_of m.graph)) ≤ most_levels → EndsInJson name
    → LoadsTo (file_given name (ast_text (maps_of m.graph)) ∷ []) (Ok m)

-- the files of the texts that are written for these namespaces in the IDL, under names that say so
abbrev pub AreIdlFiles : GraphMaps → List (List ℕ) → List FileGiven → Type 0
AreIdlFiles g [] files = files ≡ []
AreIdlFiles g (namespace ∷ more) files =
    (name : List ℕ) × (rest : List FileGiven) × (files ≡ file_given name (written_idl g namespace) ∷ rest) × (EndsInJson name → ⊥)
    × AreIdlFiles g more rest

-- where files load to a model, those of the texts of all its namespaces in the IDL load to it; values nest no more levels than are read
abbrev pub IdlLoads : Type 0
IdlLoads = (files : List FileGiven) (m : Model) (namespaces : List (List ℕ)) (texts : List FileGiven) → LoadsTo files (Ok m)
    → IsShallow (maps_of m.graph) → AreAllNamespaces (maps_of m.graph) namespaces
    → ((namespace : List ℕ) → StandsAmong namespace namespaces → IsNamespace namespace) → HasRoom (maps_of m.graph) namespaces
    → AreIdlFiles (maps_of m.graph) namespaces texts → LoadsTo texts (Ok m)

-- files that say the same statements in the same order load to the same model
abbrev pub SameStatements : Type 0
SameStatements = (files more : List FileGiven) (said others : List (List Said)) (m : Model) → HaveStatements files said
    → HaveStatements more others → all_said said ≡ all_said others → LoadsTo files (Ok m) → LoadsTo more (Ok m)
