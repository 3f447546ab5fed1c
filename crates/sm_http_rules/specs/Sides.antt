-- The shapes on each side of messages of HTTP, as marks.
use Rattle.std.specs.Prelude.{◌⊎◌, ◌&&◌, ◌||◌, ℕ, Bool, false, List, get_or, length}
use Rattle.sm_model.specs.Graphs.{GraphMaps}
use Rattle.sm_model.specs.GraphView.{entries_of, maps_of}
use Rattle.sm_model.specs.Reaching.{AreMarks, id_of_number}
use Rattle.sm_model.specs.declared.graph.Graph.{Graph}
use Rattle.sm_compile.specs.TraitIds.{http_id}
use Rattle.sm_rules.specs.Bindings.{BoundSide, an_input, an_output, an_error, IsBound, IsHttpOperation}
use Rattle.sm_rules.specs.Words.{IsInClosure}
use Rattle.sm_http_traits.specs.Carriers.{is_own_operation}
use Rattle.sm_passes.specs.Carrying.{carries}
use Rattle.sm_passes.specs.Owned.{is_own_service}
use Rattle.sm_http_rules.specs.declared.sides.Sides.{Sides}

abbrev pub is_http_operation : GraphMaps → List ℕ → Bool
is_http_operation g id = is_own_operation g id && carries g http_id id

-- what has errors that are bound: such an operation, or a service whose closure has one
abbrev pub MayErr : GraphMaps → List ℕ → Type 0
MayErr g id = IsHttpOperation g id ⊎ ((operation : List ℕ) × IsInClosure g id operation × IsHttpOperation g operation)

-- by marks of such operations, and of what leads to one
abbrev pub may_err : Graph → List Bool → List Bool → ℕ → Bool
may_err g operations reaching k =
    get_or operations k false || (get_or reaching k false && is_own_service (maps_of g) (id_of_number g k))

abbrev pub AreOnSide : Graph → BoundSide → List Bool → Type 0
AreOnSide g side marks = AreMarks (length (entries_of g)) (λ k. IsBound (maps_of g) side (id_of_number g k)) marks

pub record AreSides (g : Graph) (sides : Sides) : Type 0 where
  pub are_inputs : AreOnSide g an_input sides.inputs.items
  pub are_outputs : AreOnSide g an_output sides.outputs.items
  pub are_errors : AreOnSide g an_error sides.errors.items
