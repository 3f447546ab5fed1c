-- Files that are there come to some answer of the command `transform`.
use Rattle.std.proofs.Common.{ℕ, List, Some, refl}
use Rattle.sm_io.specs.Files.{Folder}
use Rattle.sm_model.specs.FormedGraph.{IsFormedGraph}
use Rattle.sm_model.specs.Graphs.{GraphMaps}
use Rattle.sm_model_commands.specs.asked.load.Laws.{SomeLoad, SomeModelEvents}
use Rattle.sm_model_commands.specs.asked.load.Loading.{HasError}
use Rattle.sm_transform.specs.Changed.{Change, Changed, exclude, include, rename}
use Rattle.sm_transform.specs.Laws.{IsGranted, SomeChanged}
use Rattle.sm_transformed.specs.Laws.{AcceptedMayChange}
use Rattle.sm_transformed.specs.Transformed.{IsRefusedBy}
use Rattle.sm_model_commands.specs.asked.Answer.{Answer, done, refused}
use Rattle.sm_model_commands.specs.asked.AskedLaws.{AreThere}
use Rattle.sm_model_commands.specs.asked.Lines.{event_lines}
use Rattle.sm_model_commands.specs.asked.declared.lines.Shown.TheVariants.{Errors}
use Rattle.sm_model_commands.proofs.asked.SomeLoad.{load_answered}
use Rattle.sm_model_commands.specs.Convert.{converted}
use Rattle.sm_model_commands.specs.Forms.{as_ast}
use Rattle.sm_model_commands.proofs.OneSelect.{no_selector_answered}
use Rattle.sm_transform_command.specs.Transform.{ChangedSays, GraphSays, TransformSays, namespace_line}
use Rattle.sm_transform_command.specs.Transform.ChangedSays.{no_name, printed, rejected}
use Rattle.sm_transform_command.specs.Transform.GraphSays.{changed, no_change}
use Rattle.sm_transform_command.specs.Transform.TransformSays.{loaded, not_loaded}
use Rattle.sm_transform_command.specs.TransformForm.{ChangeAsked, asks_exclude, asks_include, asks_rename}

-- a change that isn't refused
granted : (g : GraphMaps) (change : Change) → (IsRefusedBy g change → ⊥) → IsGranted g change
granted g (include steps) goes = tt
granted g (exclude steps) goes = tt
granted g (rename from to) goes = goes

module _ (some : SomeChanged) (events : SomeModelEvents) (g : GraphMaps) (formed : IsFormedGraph g) where
  module _ (change : Change) (none : (a : Answer) → ChangedSays g change a → ⊥) where
    goes : IsRefusedBy g change → ⊥
    goes h = none (refused namespace_line) (no_name h refl)

    no_error : (h : GraphMaps) → Changed g change h → HasError h → ⊥
    no_error h made error =
        events h (λ es are. none (refused (event_lines Errors es)) (rejected goes h made es (error, are) refl))

    change_answered : ⊥
    change_answered =
        some g change formed (granted g change goes)
        (λ h made. none (done (converted as_ast h)) (printed goes h made (no_error h made) refl))

  graph_answered : (asked : ChangeAsked) → ((a : Answer) → GraphSays g asked a → ⊥) → ⊥
  graph_answered (asks_include text) none =
      no_selector_answered text
      (λ steps is. change_answered (include steps) (λ a says. none a (changed (include steps) is says)))
      (λ a says. none a (no_change says))
  graph_answered (asks_exclude text) none =
      no_selector_answered text
      (λ steps is. change_answered (exclude steps) (λ a says. none a (changed (exclude steps) is says)))
      (λ a says. none a (no_change says))
  graph_answered (asks_rename from to) none =
      change_answered (rename from to) (λ a says. none a (changed (rename from to) (refl, refl) says))

pub transform_answered : SomeLoad → SomeModelEvents → SomeChanged → AcceptedMayChange → (folder : Folder) (models : List (List ℕ))
    (asked : ChangeAsked) → AreThere folder models → ((a : Answer) → TransformSays (Some folder) models asked a → ⊥) → ⊥
transform_answered loads events some may folder models asked there none =
    load_answered loads Errors folder models there (λ a says. none a (not_loaded says))
    (λ l. graph_answered some events l.graph (may l.texts.read l.graph l.accepted).0 asked (λ a says. none a (loaded l says)))
