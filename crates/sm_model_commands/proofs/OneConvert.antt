-- Files come to one answer of the command `convert`.
use Rattle.std.proofs.Common.{◌≡◌, ℕ, List, Some, sym, ap, ◌∙◌}
use Rattle.sm_io.specs.Files.{Folder}
use Rattle.sm_asked.specs.Answer.{Answer, done}
use Rattle.sm_model_commands.specs.Forms.{GraphForm}
use Rattle.sm_model_commands.specs.Convert.{ConvertSays, converted}
use Rattle.sm_model_commands.specs.Convert.ConvertSays.{not_loaded, graph}
use Rattle.sm_asked.specs.declared.lines.Shown.TheVariants.{Errors}
use Rattle.sm_asked.proofs.OneLoad.{load_same, load_apart, graph_same}

pub convert_same : (folder : Folder) (models : List (List ℕ)) (form : GraphForm) (a b : Answer) → ConvertSays (Some folder) models form a
    → ConvertSays (Some folder) models form b → a ≡ b
convert_same folder models form a b (not_loaded h) (not_loaded i) = load_same Errors folder models a b h i
convert_same folder models form a b (not_loaded h) (graph l is) = absurd (load_apart Errors folder models a h l)
convert_same folder models form a b (graph l is) (not_loaded h) = absurd (load_apart Errors folder models b h l)
convert_same folder models form a b (graph k is) (graph l is1) =
    is ∙ ap (λ g. done (converted form g)) (graph_same folder models k l) ∙ sym is1
