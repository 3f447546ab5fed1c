-- What the command `check` comes to, over bytes alone: the lines of all events of the model, none of which rejects it; or the answer
-- before it, where the events that are told reject the model.
use Rattle.std.specs.Prelude.{◌≡◌, ℕ, List, Option, Result}
use Rattle.std.specs.Global.{Vec}
use Rattle.sm_io.specs.Files.{Folder}
use Rattle.sm_io.specs.Seen.{FilesSeen}
use Rattle.sm_model.specs.declared.event.ModelEvent.{ModelEvent}
use Rattle.sm_asked.specs.load.Events.{AreModelEvents}
use Rattle.sm_asked.specs.Answer.{Answer, done}
use Rattle.sm_asked.specs.CommandAsked.{CommandAsked, over_files}
use Rattle.sm_asked.specs.Comes.{FilesComeTo}
use Rattle.sm_asked.specs.declared.stop.CommandStop.{CommandStop}
use Rattle.sm_asked.specs.Lines.{event_lines}
use Rattle.sm_asked.specs.Loading.{Loaded, LoadAnswers}
use Rattle.sm_asked.specs.declared.lines.Shown.TheVariants.{All}

pub data CheckSays (files : Option Folder) (models : List (List ℕ)) (a : Answer) : Type 0 where
  not_loaded : LoadAnswers All files models a → CheckSays files models a
  checked : (loaded : Loaded files models) → (es : List ModelEvent) → AreModelEvents loaded.graph es → a ≡ done (event_lines All es)
      → CheckSays files models a

abbrev pub check_asked : List (List ℕ) → CommandAsked
check_asked models = over_files models (λ files a. CheckSays files models a)

abbrev pub Checks : FilesSeen → FilesSeen → List (List ℕ) → Result (Vec ℕ) CommandStop → Type 0
Checks files files1 models result = FilesComeTo (λ held a. CheckSays held models a) files files1 result
