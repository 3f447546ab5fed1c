-- What the command `check` comes to, from what its model files do.
use Rattle.std.proofs.Common.{◌≡◌, ℕ, List, Result, Ok, Err, subst}
use Rattle.std.specs.Global.{Vec}
use Rattle.sm_io.specs.Causes.{Rose}
use Rattle.sm_io.specs.Seen.{FilesSeen}
use Rattle.sm_asked.specs.load.Events.{AreModelEvents}
use Rattle.sm_asked.specs.load.declared.model.Model.{Model}
use Rattle.sm_asked.specs.Answer.{done}
use Rattle.sm_model_commands.specs.Check.{CheckSays, Checks}
use Rattle.sm_model_commands.specs.Check.CheckSays.{not_loaded, checked}
use Rattle.sm_asked.specs.Lines.{event_lines}
use Rattle.sm_asked.specs.Loading.{LoadAnswers, Loads}
use Rattle.sm_model_commands.specs.steps.CheckSteps.{TellsEvents}
use Rattle.sm_asked.specs.declared.stop.CommandStop.{CommandStop}
use Rattle.sm_asked.specs.declared.lines.Shown.TheVariants.{All}
use Rattle.sm_asked.proofs.Stops.{comes_map, stops_map}

pub events_told : (files files1 : FilesSeen) (models : List (List ℕ)) (m : Model) (result : Result (Vec ℕ) CommandStop)
    → Loads All files files1 models (Ok m) → TellsEvents m.events result → Checks files files1 models result
events_told files files1 models m result h told =
    comes_map (λ a. a ≡ done (event_lines All m.events)) (CheckSays files.held models) ⊥
    (Rose files.read_faults files1.read_faults) (Unit {0}) (Unit {0})
    result (λ a is. checked h.0 m.events (subst (λ g. AreModelEvents g m.events) h.1 h.2) is) (λ never. absurd never)
    (λ short. short) told

pub check_stops : (files files1 : FilesSeen) (models : List (List ℕ)) (stop : CommandStop) → Loads All files files1 models (Err stop)
    → Checks files files1 models (Err stop)
check_stops files files1 models stop h =
    stops_map (LoadAnswers All files.held models) (CheckSays files.held models) (Rose files.read_faults files1.read_faults)
    (Rose files.read_faults files1.read_faults) (Unit {0}) (Unit {0}) stop (λ a says. not_loaded says) (λ rose. rose) (λ short. short) h
