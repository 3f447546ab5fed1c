-- What private functions come to.
use Rattle.std.specs.Prelude.{◌≡◌, ◌∷◌, ◌++◌, ℕ, List, Result, Ok, Err}
use Rattle.sm_bytes.specs.Ascii.{equals}
use Rattle.sm_ids.specs.Identifier.{IsNamespace}
use Rattle.sm_tree.specs.Json.{IsJson}
use Rattle.sm_model.specs.FormedGraph.{IsFormedGraph}
use Rattle.sm_model.specs.Graphs.{GraphMaps}
use Rattle.sm_ast.specs.Written.{written_ast}
use Rattle.sm_select.specs.SelectorText.{SelectorText}
use Rattle.sm_select.specs.Selectors.{steps_of}
use Rattle.sm_select.specs.View.{selector_view}
use Rattle.sm_select.specs.declared.selector.Selector.{Selector}
use Rattle.sm_transform.specs.Changed.{Change, Changed}
use Rattle.sm_transform.specs.Renamed.{HasTraitIds}
use Rattle.sm_transformed.specs.Transformed.{IsSaid, change_of}
use Rattle.sm_transformed.specs.declared.change.Transform.{Transform}
use Rattle.sm_model_commands.specs.asked.Comes.{StepStops}
use Rattle.sm_model_commands.specs.asked.declared.stop.CommandStop.{CommandStop}
use Rattle.sm_model_commands.specs.Select.{NoSelectorSays}
use Rattle.sm_transform_command.specs.Transform.{IsMeant, NoChangeSays}
use Rattle.sm_transform_command.specs.TransformForm.{ChangeAsked}

-- a graph may be changed, and what any change makes of it is written as JSON
pub record MayTransform (g : GraphMaps) : Type 0 where
  pub formed : IsFormedGraph g
  pub traits : HasTraitIds g
  pub json : (change : Change) → IsSaid change → (h : GraphMaps) → Changed g change h → IsJson (written_ast h)

-- the text as a selector, or why it is none
abbrev pub ReadsSelector : List ℕ → Result Selector CommandStop → Type 0
ReadsSelector text (Ok selector) = SelectorText (steps_of (selector_view selector)) text
ReadsSelector text (Err stop) = StepStops (NoSelectorSays text) ⊥ (Unit {0}) stop

-- the change that is asked, or why it is none
abbrev pub MeansChange : ChangeAsked → Result Transform CommandStop → Type 0
MeansChange asked (Ok change) = IsMeant asked (change_of change)
MeansChange asked (Err stop) = StepStops (NoChangeSays asked) ⊥ (Unit {0}) stop

-- two namespaces with `=` between
pub record AreNamespaces (argument from to : List ℕ) : Type 0 where
  pub is : argument ≡ from ++ equals ∷ to
  pub from_is : IsNamespace from
  pub to_is : IsNamespace to
