-- What the command `transform` comes to, from what its model files, its selector and its change do.
use Rattle.std.proofs.Common.{◌≡◌, ℕ, List, Result, Ok, Err, refl, sym, ap, subst}
use Rattle.std.specs.Global.{Vec}
use Rattle.sm_io.specs.Causes.{Rose}
use Rattle.sm_io.specs.Seen.{FilesSeen}
use Rattle.sm_ids.specs.Identifier.{IsNamespace}
use Rattle.sm_tree.specs.Json.{IsJson}
use Rattle.sm_model.specs.GraphView.{maps_of}
use Rattle.sm_model.specs.Graphs.{GraphMaps}
use Rattle.sm_model.specs.FormedGraph.{IsFormedGraph}
use Rattle.sm_model.specs.declared.event.ModelEvent.{ModelEvent}
use Rattle.sm_ast.specs.Written.{written_ast}
use Rattle.sm_model_commands.specs.asked.load.Loading.{AreAccepted}
use Rattle.sm_model_commands.specs.asked.load.ModelFiles.{FileGiven}
use Rattle.sm_model_commands.specs.asked.load.declared.model.Model.{Model}
use Rattle.sm_transform.specs.Changed.{Change, exclude, include, rename}
use Rattle.sm_transform.specs.Renamed.{HasTraitIds}
use Rattle.sm_transformed.specs.Laws.{AcceptedMayChange}
use Rattle.sm_transformed.specs.Transformed.{IsSaid, TransformsTo}
use Rattle.sm_transformed.specs.declared.change.TransformRefusal.TheVariants.{Namespace, Rejected}
use Rattle.sm_model_commands.specs.asked.Answer.{done}
use Rattle.sm_model_commands.specs.asked.Comes.{EndsWithLine, StepComesTo, StepStops}
use Rattle.sm_model_commands.specs.asked.Lines.{event_lines}
use Rattle.sm_model_commands.specs.asked.Loading.{LoadAnswers, Loads}
use Rattle.sm_model_commands.specs.asked.declared.lines.Shown.TheVariants.{Errors}
use Rattle.sm_model_commands.specs.asked.declared.stop.CommandStop.{CommandStop}
use Rattle.sm_model_commands.proofs.asked.Stops.{comes_map, line_stops, stops_map}
use Rattle.sm_model_commands.specs.Convert.{converted}
use Rattle.sm_model_commands.specs.Forms.{as_ast}
use Rattle.sm_transform_command.specs.Transform.{ChangedSays, GraphSays, IsMeant, NoChangeSays, TransformSays, Transforms, namespace_line}
use Rattle.sm_transform_command.specs.Transform.ChangedSays.{no_name, printed, rejected}
use Rattle.sm_transform_command.specs.Transform.GraphSays.{changed, no_change}
use Rattle.sm_transform_command.specs.Transform.TransformSays.{loaded, not_loaded}
use Rattle.sm_transform_command.specs.TransformForm.{ChangeAsked, HasNamespaces, asks_exclude, asks_include, asks_rename}
use Rattle.sm_transform_command.specs.steps.TransformSteps.{MayTransform}
use Rattle.sm_transform_command.proofs.ChangedJson.{changed_json}

-- a graph that is accepted may be changed
pub may_transform : AcceptedMayChange → (files : List FileGiven) (g h : GraphMaps) → AreAccepted files g → Path GraphMaps h g → MayTransform h
may_transform may files g h a same =
    let both : IsFormedGraph g × HasTraitIds g = may files g a in
    subst MayTransform (sym same) (record { formed = both.0; traits = both.1; json = changed_json files g a })

-- a new name that is asked for is a namespace
pub meant_said : (asked : ChangeAsked) (change : Change) → HasNamespaces asked → IsMeant asked change → IsSaid change
meant_said (asks_include text) (include steps) h is = tt
meant_said (asks_exclude text) (exclude steps) h is = tt
meant_said (asks_rename from to) (rename old new) h is = subst IsNamespace (sym is.1) h.1
meant_said (asks_include text) (exclude steps) h is = absurd is
meant_said (asks_include text) (rename old new) h is = absurd is
meant_said (asks_exclude text) (include steps) h is = absurd is
meant_said (asks_exclude text) (rename old new) h is = absurd is
meant_said (asks_rename from to) (include steps) h is = absurd is
meant_said (asks_rename from to) (exclude steps) h is = absurd is

module _ (g : GraphMaps) (change : Change) where
  -- why a change makes no model
  pub namespace_told : (stop : CommandStop) → TransformsTo g change (Err Namespace) → EndsWithLine namespace_line stop
      → StepStops (ChangedSays g change) ⊥ (Unit {0}) stop
  namespace_told stop h ends = line_stops (ChangedSays g change) ⊥ (Unit {0}) namespace_line stop (no_name h refl) tt ends

  pub rejected_told : (es : List ModelEvent) (stop : CommandStop) → TransformsTo g change (Err (Rejected es))
      → EndsWithLine (event_lines Errors es) stop → StepStops (ChangedSays g change) ⊥ (Unit {0}) stop
  rejected_told es stop (goes, (h, made, rejects)) ends =
      line_stops (ChangedSays g change) ⊥ (Unit {0}) (event_lines Errors es) stop (rejected goes h made es rejects refl) tt ends

  -- the text of the model that it makes
  pub made_json : (m : Model) → MayTransform g → IsSaid change → TransformsTo g change (Ok m) → IsJson (written_ast (maps_of m.graph))
  made_json m may said (goes, made, accepts) = may.json change said (maps_of m.graph) made

  pub made_printed : (m : Model) (text : Vec ℕ) → TransformsTo g change (Ok m) → text.items ≡ converted as_ast (maps_of m.graph)
      → ChangedSays g change (done text.items)
  made_printed m text (goes, made, accepts) is = printed goes (maps_of m.graph) made accepts.0 (ap done is)

  -- what is asked
  pub change_comes : (asked : ChangeAsked) (result : Result (Vec ℕ) CommandStop) → IsMeant asked change
      → StepComesTo (ChangedSays g change) ⊥ (Unit {0}) result → StepComesTo (GraphSays g asked) ⊥ (Unit {0}) result
  change_comes asked result is h =
      comes_map (ChangedSays g change) (GraphSays g asked) ⊥ ⊥ (Unit {0}) (Unit {0}) result (λ a says. changed change is says)
      (λ never. never) (λ short. short) h

pub no_change_stops : (g : GraphMaps) (asked : ChangeAsked) (stop : CommandStop) → StepStops (NoChangeSays asked) ⊥ (Unit {0}) stop
    → StepStops (GraphSays g asked) ⊥ (Unit {0}) stop
no_change_stops g asked stop h =
    stops_map (NoChangeSays asked) (GraphSays g asked) ⊥ ⊥ (Unit {0}) (Unit {0}) stop (λ a says. no_change says) (λ never. never)
    (λ short. short) h

-- the command
pub graph_transforms : (files files1 : FilesSeen) (models : List (List ℕ)) (asked : ChangeAsked) (m : Model)
    (result : Result (Vec ℕ) CommandStop) → Loads Errors files files1 models (Ok m)
    → StepComesTo (GraphSays (maps_of m.graph) asked) ⊥ (Unit {0}) result → Transforms files files1 models asked result
graph_transforms files files1 models asked m result h is =
    comes_map (GraphSays (maps_of m.graph) asked) (TransformSays files.held models asked) ⊥
    (Rose files.read_faults files1.read_faults) (Unit {0}) (Unit {0}) result
    (λ a says. loaded h.0 (subst (λ g. GraphSays g asked a) h.1 says)) (λ never. absurd never) (λ short. short) is

pub transform_stops : (files files1 : FilesSeen) (models : List (List ℕ)) (asked : ChangeAsked) (stop : CommandStop)
    → Loads Errors files files1 models (Err stop) → Transforms files files1 models asked (Err stop)
transform_stops files files1 models asked stop h =
    stops_map (LoadAnswers Errors files.held models) (TransformSays files.held models asked) (Rose files.read_faults files1.read_faults)
    (Rose files.read_faults files1.read_faults) (Unit {0}) (Unit {0}) stop (λ a says. not_loaded says) (λ rose. rose) (λ short. short) h
