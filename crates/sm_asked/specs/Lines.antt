-- The lines that are printed for model files and models that are refused, for limits, and for events. Each ends with a line feed.
use Rattle.std.specs.Prelude.{ℕ, Bool, true, false, if◌then◌else◌, List, [], ◌∷◌, ◌++◌, codes}
use Rattle.std.specs.Fmt.{decimal}
use Rattle.std.specs.List.{flat_map}
use Rattle.sm_bytes.specs.Ascii.{space}
use Rattle.sm_tree.specs.Pointer.{pointer}
use Rattle.sm_tree.specs.declared.refusal.SyntaxRefusal.{SyntaxRefusal}
use Rattle.sm_ast.specs.declared.refusal.AstRefusal.{AstRefusal}
use Rattle.sm_ast.specs.declared.refusal.AstRefusal.TheVariants.{Version, Field, WrongType, BadId, NoMemory}
use Rattle.sm_model.specs.declared.event.ModelEvent.{ModelEvent}
use Rattle.sm_model.specs.declared.event.Severity.{Severity}
use Rattle.sm_model.specs.declared.event.Severity.TheVariants.{Note, Warning, Danger, Error}
use Rattle.sm_merge.specs.declared.limit.LimitKind.{LimitKind}
use Rattle.sm_merge.specs.declared.limit.LimitKind.TheVariants.{Shapes, Members, AllMembers, Traits}
use Rattle.sm_merge.specs.Limits.{most_shapes, most_members, most_members_in_all, most_in_traits}
use Rattle.sm_asked.specs.declared.lines.Shown.{Shown}
use Rattle.sm_asked.specs.declared.lines.Shown.TheVariants.{All, Errors}
use Rattle.sm_lines.specs.Lines.{line, syntax_text}
use Rattle.sm_asked.specs.Limits.{files_limit, file_limit, bytes_limit, body_limit}

-- the model has no shape of this name
abbrev pub no_shape_line : List ℕ → List ℕ
no_shape_line shape = line (codes "NoShape") shape

-- the store refused a pattern: the first id that carries it
abbrev pub pattern_line : List ℕ → List ℕ
pattern_line id = line (codes "Pattern") id

-- a model file that is no JSON text: the file's name, the word and the place
abbrev pub json_line : List ℕ → SyntaxRefusal → List ℕ
json_line file refusal = line file (codes "Json " ++ syntax_text refusal)

-- a model file that is no model: the file's name, the word, and the path as a JSON Pointer. `NoMemory` is no refusal of a tree
abbrev pub ast_text : AstRefusal → List ℕ
ast_text Version = codes "Version"
ast_text (Field path) = codes "Field " ++ pointer path
ast_text (WrongType path) = codes "Type " ++ pointer path
ast_text (BadId path) = codes "BadId " ++ pointer path
ast_text NoMemory = codes "NoMemory"

abbrev pub ast_line : List ℕ → AstRefusal → List ℕ
ast_line file refusal = line file (codes "Ast " ++ ast_text refusal)

-- a limit that was passed: its word and its number
abbrev pub limit_line : List ℕ → ℕ → List ℕ
limit_line word number = line (codes "Limit") (word ++ (space ∷ decimal number))

abbrev pub files_limit_line : List ℕ
files_limit_line = limit_line (codes "files") files_limit

abbrev pub bytes_limit_line : List ℕ
bytes_limit_line = limit_line (codes "bytes") bytes_limit

-- that of a limit on the size of a graph
abbrev pub size_limit : LimitKind → ℕ
size_limit Shapes = most_shapes
size_limit Members = most_members
size_limit AllMembers = most_members_in_all
size_limit Traits = most_in_traits

abbrev pub size_limit_word : LimitKind → List ℕ
size_limit_word Shapes = codes "shapes"
size_limit_word Members = codes "members"
size_limit_word AllMembers = codes "allmembers"
size_limit_word Traits = codes "traits"

abbrev pub size_limit_line : LimitKind → List ℕ
size_limit_line kind = limit_line (size_limit_word kind) (size_limit kind)

abbrev pub file_limit_line : List ℕ
file_limit_line = limit_line (codes "file") file_limit

abbrev pub body_limit_line : List ℕ
body_limit_line = limit_line (codes "body") body_limit

-- an event of a model: its severity, its id, the shape or member that it speaks of, and its detail where it has one
abbrev pub severity_word : Severity → List ℕ
severity_word Note = codes "NOTE"
severity_word Warning = codes "WARNING"
severity_word Danger = codes "DANGER"
severity_word Error = codes "ERROR"

abbrev pub detail_part : List ℕ → List ℕ
detail_part [] = []
detail_part (c ∷ cs) = space ∷ c ∷ cs

abbrev pub event_line : ModelEvent → List ℕ
event_line e = line (severity_word e.severity) (e.id ++ (space ∷ (e.shape ++ detail_part e.detail)))

-- whether an event is shown: all are, or those alone for which a model is rejected
abbrev pub is_shown : Shown → Severity → Bool
is_shown All severity = true
is_shown Errors Error = true
is_shown Errors Danger = false
is_shown Errors Warning = false
is_shown Errors Note = false

abbrev pub shown_line : Shown → ModelEvent → List ℕ
shown_line shown e = if is_shown shown e.severity then event_line e else []

abbrev pub event_lines : Shown → List ModelEvent → List ℕ
event_lines shown es = flat_map (shown_line shown) es
