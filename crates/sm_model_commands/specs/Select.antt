-- What the command `select` comes to, over bytes alone: the model files first, then the selector, then the ids that it picks.
use Rattle.std.specs.Prelude.{◌≡◌, ℕ, List, Option, Result}
use Rattle.std.specs.Global.{Vec}
use Rattle.sm_io.specs.Files.{Folder}
use Rattle.sm_io.specs.Seen.{FilesSeen}
use Rattle.sm_model.specs.Graphs.{GraphMaps}
use Rattle.sm_select.specs.Answers.{ArePicked}
use Rattle.sm_select.specs.SelectorText.{SelectorText, BreaksBy, LeavesProfile}
use Rattle.sm_select.specs.Selectors.{Steps}
use Rattle.sm_asked.specs.Answer.{Answer, done, refused}
use Rattle.sm_asked.specs.CommandAsked.{CommandAsked, over_files}
use Rattle.sm_asked.specs.Comes.{FilesComeTo}
use Rattle.sm_asked.specs.declared.stop.CommandStop.{CommandStop}
use Rattle.sm_model_commands.specs.SelectLines.{broken_selector_line, other_selector_line, id_lines}
use Rattle.sm_asked.specs.Loading.{Loaded, LoadAnswers}
use Rattle.sm_asked.specs.declared.lines.Shown.TheVariants.{Errors}

-- the answer to a text that is no selector: its place
pub data NoSelectorSays (text : List ℕ) (a : Answer) : Type 0 where
  breaks : (at : ℕ) → BreaksBy text at → a ≡ refused (broken_selector_line at) → NoSelectorSays text a
  leaves : (at : ℕ) → LeavesProfile text at → a ≡ refused (other_selector_line at) → NoSelectorSays text a

-- what a text comes to for a graph: that answer, or the ids that it picks, in order, one a line
pub data SelectorSays (g : GraphMaps) (text : List ℕ) (a : Answer) : Type 0 where
  no_selector : NoSelectorSays text a → SelectorSays g text a
  picks : (steps : Steps) → SelectorText steps text → (ids : List (List ℕ)) → ArePicked g steps ids → a ≡ done (id_lines ids)
      → SelectorSays g text a

pub data SelectSays (files : Option Folder) (models : List (List ℕ)) (selector : List ℕ) (a : Answer) : Type 0 where
  not_loaded : LoadAnswers Errors files models a → SelectSays files models selector a
  selected : (loaded : Loaded files models) → SelectorSays loaded.graph selector a → SelectSays files models selector a

abbrev pub select_asked : List (List ℕ) → List ℕ → CommandAsked
select_asked models selector = over_files models (λ files a. SelectSays files models selector a)

abbrev pub Selects : FilesSeen → FilesSeen → List (List ℕ) → List ℕ → Result (Vec ℕ) CommandStop → Type 0
Selects files files1 models selector result = FilesComeTo (λ held a. SelectSays held models selector a) files files1 result
