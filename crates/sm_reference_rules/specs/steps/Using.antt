-- Shapes that no service uses, as tests.
use Rattle.std.specs.Prelude.{◌≡◌, ◌&&◌, ℕ, Bool, false, not, List, get_or, length}
use Rattle.sm_model.specs.Graphs.{GraphMaps}
use Rattle.sm_model.specs.GraphView.{IsShapeNumber, entries_of, maps_of}
use Rattle.sm_model.specs.Reaching.{IsMarked, id_of_number}
use Rattle.sm_model.specs.declared.graph.Graph.{Graph}
use Rattle.sm_compile.specs.Looked.{kind_under}
use Rattle.sm_compile.specs.TraitIds.{mixin_id, trait_id}
use Rattle.sm_rules.specs.Words.{IsInClosure, IsService}
use Rattle.sm_passes.specs.Carrying.{carries}
use Rattle.sm_passes.specs.Owned.{is_own_shape, is_service}

-- a shape that is no service, no trait and no mixin
abbrev pub wants_use : GraphMaps → List ℕ → Bool
wants_use g id =
    is_own_shape g id
    && (not (is_service (kind_under g id)) && (not (carries g trait_id id) && not (carries g mixin_id id)))

-- these marks are those of what is in the closure of some service, of which there are some
pub record AreUsed (g : Graph) (marks : List Bool) : Type 0 where
  pub whole : length marks ≡ length (entries_of g)
  pub some : (service : List ℕ) × IsService (maps_of g) service
  pub used : (k : ℕ) → IsMarked marks k → (service : List ℕ) × IsInClosure (maps_of g) service (id_of_number g k)
  pub all : (k : ℕ) → IsShapeNumber g k → (service : List ℕ) → IsInClosure (maps_of g) service (id_of_number g k) → IsMarked marks k

abbrev pub is_unused : Graph → List Bool → ℕ → Bool
is_unused g marks k = wants_use (maps_of g) (id_of_number g k) && not (get_or marks k false)
