-- What the command `transform` comes to, over bytes alone: the model files first, then the selector, then the name that a namespace gets,
-- then what the rules say of the changed graph, and then its text.
use Rattle.std.specs.Prelude.{◌≡◌, ℕ, List, [], ◌∷◌, ◌++◌, codes, Option, Result}
use Rattle.std.specs.Global.{Vec}
use Rattle.sm_bytes.specs.Ascii.{line_feed}
use Rattle.sm_io.specs.Files.{Folder}
use Rattle.sm_io.specs.Seen.{FilesSeen}
use Rattle.sm_model.specs.Graphs.{GraphMaps}
use Rattle.sm_model.specs.declared.event.ModelEvent.{ModelEvent}
use Rattle.sm_select.specs.SelectorText.{SelectorText}
use Rattle.sm_model_commands.specs.asked.load.Loading.{HasError, RejectsGraph}
use Rattle.sm_transform.specs.Changed.{Change, Changed, exclude, include, rename}
use Rattle.sm_transformed.specs.Transformed.{IsRefusedBy}
use Rattle.sm_model_commands.specs.asked.Answer.{Answer, done, refused}
use Rattle.sm_model_commands.specs.asked.CommandAsked.{CommandAsked, over_files}
use Rattle.sm_model_commands.specs.asked.Comes.{FilesComeTo}
use Rattle.sm_model_commands.specs.asked.Lines.{event_lines}
use Rattle.sm_model_commands.specs.asked.Loading.{Loaded, LoadAnswers}
use Rattle.sm_model_commands.specs.asked.declared.lines.Shown.TheVariants.{Errors}
use Rattle.sm_model_commands.specs.asked.declared.stop.CommandStop.{CommandStop}
use Rattle.sm_model_commands.specs.Convert.{converted}
use Rattle.sm_model_commands.specs.Forms.{as_ast}
use Rattle.sm_model_commands.specs.Select.{NoSelectorSays}
use Rattle.sm_transform_command.specs.TransformForm.{ChangeAsked, asks_exclude, asks_include, asks_rename}

-- the namespace gets no other name
abbrev pub namespace_line : List ℕ
namespace_line = codes "Namespace" ++ line_feed ∷ []

-- what is asked is this change
abbrev pub IsMeant : ChangeAsked → Change → Type 0
IsMeant (asks_include text) (include steps) = SelectorText steps text
IsMeant (asks_exclude text) (exclude steps) = SelectorText steps text
IsMeant (asks_rename from to) (rename old new) = (old ≡ from) × (new ≡ to)
IsMeant (asks_include text) (exclude steps) = ⊥
IsMeant (asks_include text) (rename old new) = ⊥
IsMeant (asks_exclude text) (include steps) = ⊥
IsMeant (asks_exclude text) (rename old new) = ⊥
IsMeant (asks_rename from to) (include steps) = ⊥
IsMeant (asks_rename from to) (exclude steps) = ⊥

-- or it is none: the answer to a text that is no selector
abbrev pub NoChangeSays : ChangeAsked → (Answer → Type 0)
NoChangeSays (asks_include text) = NoSelectorSays text
NoChangeSays (asks_exclude text) = NoSelectorSays text
NoChangeSays (asks_rename from to) = λ a. ⊥

-- what a change of a graph comes to: the refusal of a name, the events that reject what it makes, or the text of that in the JSON AST
pub data ChangedSays (g : GraphMaps) (change : Change) (a : Answer) : Type 0 where
  no_name : IsRefusedBy g change → a ≡ refused namespace_line → ChangedSays g change a
  rejected : (IsRefusedBy g change → ⊥) → (h : GraphMaps) → Changed g change h → (es : List ModelEvent) → RejectsGraph h es
      → a ≡ refused (event_lines Errors es) → ChangedSays g change a
  printed : (IsRefusedBy g change → ⊥) → (h : GraphMaps) → Changed g change h → (HasError h → ⊥) → a ≡ done (converted as_ast h)
      → ChangedSays g change a

-- what is asked of a graph comes to
pub data GraphSays (g : GraphMaps) (asked : ChangeAsked) (a : Answer) : Type 0 where
  no_change : NoChangeSays asked a → GraphSays g asked a
  changed : (change : Change) → IsMeant asked change → ChangedSays g change a → GraphSays g asked a

pub data TransformSays (files : Option Folder) (models : List (List ℕ)) (asked : ChangeAsked) (a : Answer) : Type 0 where
  not_loaded : LoadAnswers Errors files models a → TransformSays files models asked a
  loaded : (l : Loaded files models) → GraphSays l.graph asked a → TransformSays files models asked a

abbrev pub transform_asked : List (List ℕ) → ChangeAsked → CommandAsked
transform_asked models asked = over_files models (λ files a. TransformSays files models asked a)

abbrev pub Transforms : FilesSeen → FilesSeen → List (List ℕ) → ChangeAsked → Result (Vec ℕ) CommandStop → Type 0
Transforms files files1 models asked result = FilesComeTo (λ held a. TransformSays held models asked a) files files1 result
