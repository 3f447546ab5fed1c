-- Files that are there come to some answer of the command `convert`.
use Rattle.std.proofs.Common.{ℕ, List, Some, refl}
use Rattle.sm_io.specs.Files.{Folder}
use Rattle.sm_asked.specs.load.Laws.{SomeLoad}
use Rattle.sm_asked.specs.Answer.{Answer, done}
use Rattle.sm_model_commands.specs.Forms.{GraphForm}
use Rattle.sm_model_commands.specs.Convert.{ConvertSays, converted}
use Rattle.sm_model_commands.specs.Convert.ConvertSays.{not_loaded, graph}
use Rattle.sm_asked.specs.AskedLaws.{AreThere}
use Rattle.sm_asked.specs.declared.lines.Shown.TheVariants.{Errors}
use Rattle.sm_asked.proofs.SomeLoad.{load_answered}

pub convert_answered : SomeLoad → (folder : Folder) (models : List (List ℕ)) (form : GraphForm) → AreThere folder models
    → ((a : Answer) → ConvertSays (Some folder) models form a → ⊥) → ⊥
convert_answered loads folder models form there none =
    load_answered loads Errors folder models there (λ a says. none a (not_loaded says))
    (λ l. none (done (converted form l.graph)) (graph l refl))
