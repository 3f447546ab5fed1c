-- What the command `select` comes to, from what its model files and its selector do.
use Rattle.std.proofs.Common.{◌≡◌, ℕ, List, Ok, Err, refl, ap, subst}
use Rattle.std.specs.Global.{Vec}
use Rattle.std.specs.Prelude.{IfOk, Result}
use Rattle.sm_bytes.specs.declared.no_memory.NoMemory.{NoMemory}
use Rattle.sm_io.specs.Causes.{Rose}
use Rattle.sm_io.specs.Seen.{FilesSeen}
use Rattle.sm_model.specs.Graphs.{GraphMaps}
use Rattle.sm_model.specs.GraphView.{maps_of}
use Rattle.sm_asked.specs.load.declared.model.Model.{Model}
use Rattle.sm_select.specs.Answers.{ArePicked, ParsesSelector}
use Rattle.sm_select.specs.Selectors.{Steps, steps_of}
use Rattle.sm_select.specs.View.{selector_view}
use Rattle.sm_select.specs.declared.refusal.SelectorRefusal.TheVariants.{Syntax, OutOfProfile}
use Rattle.sm_select.specs.declared.selector.Selector.{Selector}
use Rattle.sm_asked.specs.Answer.{done}
use Rattle.sm_model_commands.specs.SelectLines.{broken_selector_line, id_lines, other_selector_line}
use Rattle.sm_asked.specs.Loading.{LoadAnswers, Loads}
use Rattle.sm_model_commands.specs.Select.{NoSelectorSays, SelectorSays, SelectSays, Selects}
use Rattle.sm_model_commands.specs.Select.NoSelectorSays.{breaks, leaves}
use Rattle.sm_model_commands.specs.Select.SelectorSays.{no_selector, picks}
use Rattle.sm_model_commands.specs.Select.SelectSays.{not_loaded, selected}
use Rattle.sm_asked.specs.Comes.{EndsWithLine, StepComesTo, StepStops}
use Rattle.sm_asked.specs.declared.stop.CommandStop.{CommandStop}
use Rattle.sm_asked.specs.declared.lines.Shown.TheVariants.{Errors}
use Rattle.sm_asked.proofs.Stops.{line_stops, stops_map, comes_map}

-- a text that is no selector
pub broken_told : (text : List ℕ) (at : ℕ) (stop : CommandStop) → ParsesSelector text (Err (Syntax at))
    → EndsWithLine (broken_selector_line at) stop → StepStops (NoSelectorSays text) ⊥ (Unit {0}) stop
broken_told text at stop is ends =
    line_stops (NoSelectorSays text) ⊥ (Unit {0}) (broken_selector_line at) stop (breaks at is refl) tt ends

pub other_told : (text : List ℕ) (at : ℕ) (stop : CommandStop) → ParsesSelector text (Err (OutOfProfile at))
    → EndsWithLine (other_selector_line at) stop → StepStops (NoSelectorSays text) ⊥ (Unit {0}) stop
other_told text at stop is ends =
    line_stops (NoSelectorSays text) ⊥ (Unit {0}) (other_selector_line at) stop (leaves at is refl) tt ends

pub none_told : (g : GraphMaps) (text : List ℕ) (stop : CommandStop) → StepStops (NoSelectorSays text) ⊥ (Unit {0}) stop
    → StepStops (SelectorSays g text) ⊥ (Unit {0}) stop
none_told g text stop h =
    stops_map (NoSelectorSays text) (SelectorSays g text) ⊥ ⊥ (Unit {0}) (Unit {0}) stop (λ a says. no_selector says) (λ never. never)
    (λ short. short) h

-- the ids of a selector
pub picked_told : (g : GraphMaps) (text : List ℕ) (selector : Selector) (lines : Vec ℕ) → ParsesSelector text (Ok selector)
    → ((ids : List (List ℕ)) × ArePicked g (steps_of (selector_view selector)) ids × (lines.items ≡ id_lines ids))
    → SelectorSays g text (done lines.items)
picked_told g text selector lines is (ids, are, same) = picks (steps_of (selector_view selector)) is ids are (ap done same)

-- the command
pub graph_selects : (files files1 : FilesSeen) (models : List (List ℕ)) (selector : List ℕ) (m : Model) (result : Result (Vec ℕ) CommandStop)
    → Loads Errors files files1 models (Ok m) → StepComesTo (SelectorSays (maps_of m.graph) selector) ⊥ (Unit {0}) result
    → Selects files files1 models selector result
graph_selects files files1 models selector m result h is =
    comes_map (SelectorSays (maps_of m.graph) selector) (SelectSays files.held models selector) ⊥
    (Rose files.read_faults files1.read_faults) (Unit {0})
    (Unit {0}) result (λ a says. selected h.0 (subst (λ g. SelectorSays g selector a) h.1 says)) (λ never. absurd never) (λ short. short) is

pub select_stops : (files files1 : FilesSeen) (models : List (List ℕ)) (selector : List ℕ) (stop : CommandStop)
    → Loads Errors files files1 models (Err stop)
    → Selects files files1 models selector (Err stop)
select_stops files files1 models selector stop h =
    stops_map (LoadAnswers Errors files.held models) (SelectSays files.held models selector) (Rose files.read_faults files1.read_faults)
    (Rose files.read_faults files1.read_faults) (Unit {0}) (Unit {0}) stop (λ a says. not_loaded says) (λ rose. rose) (λ short. short) h

-- the lines of ids that are picked
pub lines_picked : (g : GraphMaps) (steps : Steps) (ids : List (List ℕ)) (result : Result (Vec ℕ) NoMemory) → ArePicked g steps ids
    → IfOk result (λ lines. lines.items ≡ id_lines ids)
    → IfOk result (λ lines. (others : List (List ℕ)) × ArePicked g steps others × (lines.items ≡ id_lines others))
lines_picked g steps ids (Ok lines) are is = (ids, are, is)
lines_picked g steps ids (Err e) are is = tt
