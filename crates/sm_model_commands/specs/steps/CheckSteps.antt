-- What telling the events of a model comes to.
use Rattle.std.specs.Prelude.{◌≡◌, ℕ, List, Result}
use Rattle.std.specs.Global.{Vec}
use Rattle.sm_model.specs.declared.event.ModelEvent.{ModelEvent}
use Rattle.sm_asked.specs.Answer.{done}
use Rattle.sm_asked.specs.Comes.{StepComesTo}
use Rattle.sm_asked.specs.Lines.{event_lines}
use Rattle.sm_asked.specs.declared.lines.Shown.TheVariants.{All}
use Rattle.sm_asked.specs.declared.stop.CommandStop.{CommandStop}

-- the lines of events
abbrev pub TellsEvents : List ModelEvent → Result (Vec ℕ) CommandStop → Type 0
TellsEvents es result = StepComesTo (λ a. a ≡ done (event_lines All es)) ⊥ (Unit {0}) result
