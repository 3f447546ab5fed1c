-- What the command `convert` comes to, over bytes alone: the text of the graph of its model files, or the answer before it.
use Rattle.std.specs.Prelude.{◌≡◌, ℕ, List, [], ◌∷◌, ◌++◌, Option, Result}
use Rattle.std.specs.Global.{Vec}
use Rattle.sm_bytes.specs.Ascii.{line_feed}
use Rattle.sm_io.specs.Files.{Folder}
use Rattle.sm_io.specs.Seen.{FilesSeen}
use Rattle.sm_json.specs.Written.{written}
use Rattle.sm_model.specs.Graphs.{GraphMaps}
use Rattle.sm_ast.specs.Written.{written_ast}
use Rattle.sm_idl.specs.Written.{written_idl}
use Rattle.sm_asked.specs.Answer.{Answer, done}
use Rattle.sm_asked.specs.CommandAsked.{CommandAsked, over_files}
use Rattle.sm_asked.specs.Comes.{FilesComeTo}
use Rattle.sm_asked.specs.declared.stop.CommandStop.{CommandStop}
use Rattle.sm_model_commands.specs.Forms.{GraphForm, as_ast, as_idl}
use Rattle.sm_asked.specs.Loading.{Loaded, LoadAnswers}
use Rattle.sm_asked.specs.declared.lines.Shown.TheVariants.{Errors}

-- the text that is printed for a graph
abbrev pub converted : GraphForm → GraphMaps → List ℕ
converted as_ast g = written (written_ast g) ++ line_feed ∷ []
converted (as_idl namespace) g = written_idl g namespace

pub data ConvertSays (files : Option Folder) (models : List (List ℕ)) (form : GraphForm) (a : Answer) : Type 0 where
  not_loaded : LoadAnswers Errors files models a → ConvertSays files models form a
  graph : (loaded : Loaded files models) → a ≡ done (converted form loaded.graph) → ConvertSays files models form a

abbrev pub convert_asked : List (List ℕ) → GraphForm → CommandAsked
convert_asked models form = over_files models (λ files a. ConvertSays files models form a)

abbrev pub Converts : FilesSeen → FilesSeen → List (List ℕ) → GraphForm → Result (Vec ℕ) CommandStop → Type 0
Converts files files1 models form result = FilesComeTo (λ held a. ConvertSays held models form a) files files1 result
