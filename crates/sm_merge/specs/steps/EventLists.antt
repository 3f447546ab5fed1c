-- Events before they are put into order.
use Rattle.std.specs.Prelude.{◌≡◌, ◌↔◌, ℕ, List, [], ◌∷◌, ◌++◌, if◌then◌else◌, codes}
use Rattle.std.specs.List.{Contains, flat_map}
use Rattle.sm_model.specs.EventView.{AreErrors, EventTold, events_view}
use Rattle.sm_model.specs.PreludeShapes.{unit_id}
use Rattle.sm_model.specs.declared.event.ModelEvent.{ModelEvent}
use Rattle.sm_merge.specs.Merged.{model_event}
use Rattle.sm_merge.specs.declared.table.NamedValue.{NamedValue}

-- the same events, in any order, and any number of times
abbrev pub HaveSameEvents : List EventTold → List EventTold → Type 0
HaveSameEvents es fs = (e : EventTold) → Contains es e ↔ Contains fs e

-- these events were put, and are errors
pub record TellsMore (before after : List ModelEvent) (es : List EventTold) : Type 0 where
  pub told : events_view after ≡ events_view before ++ es
  pub errors : AreErrors before → AreErrors after

-- values that are in conflict
abbrev pub if_conflict : (List ℕ → EventTold) → NamedValue → List EventTold
if_conflict told v = if v.folded.conflict then told v.name ∷ [] else []

abbrev pub metadata_event : List ℕ → EventTold
metadata_event key = model_event unit_id (codes "Model.Metadata") key

abbrev pub trait_event : List ℕ → List ℕ → EventTold
trait_event place name = model_event place (codes "Model.Trait") name

-- what is told of keys of metadata, and of one shape or member
abbrev pub metadata_events : List NamedValue → List EventTold
metadata_events rows = flat_map (if_conflict metadata_event) rows

abbrev pub trait_events : List ℕ → List NamedValue → List EventTold
trait_events place values = flat_map (if_conflict (trait_event place)) values

-- what traits are applied to, where it isn't there
abbrev pub applied_event : List ℕ → EventTold
applied_event id = model_event id (codes "Model.Apply") []

-- a shape that is stated again otherwise
abbrev pub shape_event : List ℕ → EventTold
shape_event id = model_event id (codes "Model.Shape") []
