-- What a change makes of a model.
use Rattle.std.specs.Prelude.{◌||◌, Bool, false, List, [], ◌∷◌, Result, Ok, Err}
use Rattle.sm_ids.specs.Identifier.{IsNamespace}
use Rattle.sm_model.specs.Graphs.{GraphMaps}
use Rattle.sm_model.specs.GraphView.{maps_of}
use Rattle.sm_model.specs.declared.event.ModelEvent.{ModelEvent}
use Rattle.sm_model.specs.declared.graph.Graph.{Graph}
use Rattle.sm_rules.specs.RuleList.{is_error}
use Rattle.sm_select.specs.Selectors.{steps_of}
use Rattle.sm_select.specs.View.{selector_view}
use Rattle.sm_load.specs.Loading.{AcceptsGraph, RejectsGraph}
use Rattle.sm_load.specs.declared.model.Model.{Model}
use Rattle.sm_transform.specs.Changed.{Change, Changed, exclude, include, rename}
use Rattle.sm_transform.specs.Renamed.{IsRefused}
use Rattle.sm_transformed.specs.declared.change.Transform.{Transform}
use Rattle.sm_transformed.specs.declared.change.Transform.TheVariants.{Include, Exclude, Rename}
use Rattle.sm_transformed.specs.declared.change.TransformRefusal.{TransformRefusal}
use Rattle.sm_transformed.specs.declared.change.TransformRefusal.TheVariants.{Namespace, Rejected, NoMemory}

-- the change that a value of the code stands for
abbrev pub change_of : Transform → Change
change_of (Include selector) = include (steps_of (selector_view selector))
change_of (Exclude selector) = exclude (steps_of (selector_view selector))
change_of (Rename from to) = rename from to

-- a namespace's new name is one
abbrev pub IsSaid : Change → Type 0
IsSaid (include steps) = Unit {0}
IsSaid (exclude steps) = Unit {0}
IsSaid (rename from to) = IsNamespace to

-- the namespace gets no other name
abbrev pub IsRefusedBy : GraphMaps → Change → Type 0
IsRefusedBy g (include steps) = ⊥
IsRefusedBy g (exclude steps) = ⊥
IsRefusedBy g (rename from to) = IsRefused g from to

-- the model of the changed graph where no rule rejects it, else all its events
abbrev pub TransformsTo : GraphMaps → Change → Result Model TransformRefusal → Type 0
TransformsTo g change (Ok m) =
    (IsRefusedBy g change → ⊥) × Changed g change (maps_of m.graph) × AcceptsGraph (maps_of m.graph) m.events
TransformsTo g change (Err Namespace) = IsRefusedBy g change
TransformsTo g change (Err (Rejected es)) =
    (IsRefusedBy g change → ⊥) × ((h : GraphMaps) × Changed g change h × RejectsGraph h es)
TransformsTo g change (Err NoMemory) = Unit {0}

-- the stages: the changed graph, and what the rules say of one
abbrev pub Changes : GraphMaps → Change → Result Graph TransformRefusal → Type 0
Changes g change (Ok h) = (IsRefusedBy g change → ⊥) × Changed g change (maps_of h)
Changes g change (Err Namespace) = IsRefusedBy g change
Changes g change (Err (Rejected es)) = ⊥
Changes g change (Err NoMemory) = Unit {0}

abbrev pub Judges : GraphMaps → Result Model TransformRefusal → Type 0
Judges h (Ok m) = Path GraphMaps (maps_of m.graph) h × AcceptsGraph h m.events
Judges h (Err Namespace) = ⊥
Judges h (Err (Rejected es)) = RejectsGraph h es
Judges h (Err NoMemory) = Unit {0}

-- some event rejects a model
abbrev pub some_grave : List ModelEvent → Bool
some_grave [] = false
some_grave (e ∷ es) = is_error e.severity || some_grave es
