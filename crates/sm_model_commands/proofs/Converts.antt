-- What the command `convert` comes to, from what its model files do.
use Rattle.std.proofs.Common.{◌≡◌, ℕ, List, Ok, Err, ap, ◌∙◌}
use Rattle.std.specs.Global.{Vec}
use Rattle.sm_io.specs.Causes.{Rose}
use Rattle.sm_io.specs.Seen.{FilesSeen}
use Rattle.sm_model.specs.GraphView.{maps_of}
use Rattle.sm_asked.specs.load.declared.model.Model.{Model}
use Rattle.sm_asked.specs.Answer.{done}
use Rattle.sm_model_commands.specs.Forms.{GraphForm}
use Rattle.sm_model_commands.specs.Convert.{ConvertSays, converted, Converts}
use Rattle.sm_model_commands.specs.Convert.ConvertSays.{not_loaded, graph}
use Rattle.sm_asked.specs.Loading.{LoadAnswers, Loads}
use Rattle.sm_asked.specs.declared.stop.CommandStop.{CommandStop}
use Rattle.sm_asked.specs.declared.lines.Shown.TheVariants.{Errors}
use Rattle.sm_asked.proofs.Stops.{stops_map}

pub text_comes : (files files1 : FilesSeen) (models : List (List ℕ)) (form : GraphForm) (m : Model) (text : Vec ℕ)
    → Loads Errors files files1 models (Ok m) → text.items ≡ converted form (maps_of m.graph) → Converts files files1 models form (Ok text)
text_comes files files1 models form m text h is = graph h.0 (ap done (is ∙ ap (converted form) h.1))

pub stop_comes : (files files1 : FilesSeen) (models : List (List ℕ)) (form : GraphForm) (stop : CommandStop)
    → Loads Errors files files1 models (Err stop)
    → Converts files files1 models form (Err stop)
stop_comes files files1 models form stop h =
    stops_map (LoadAnswers Errors files.held models) (ConvertSays files.held models form) (Rose files.read_faults files1.read_faults)
    (Rose files.read_faults files1.read_faults)
    (Unit {0}) (Unit {0}) stop (λ a says. not_loaded says) (λ rose. rose) (λ short. short) h
