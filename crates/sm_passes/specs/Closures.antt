-- The closures of services, as marks and as numbers, and what is told of services.
use Rattle.std.specs.Prelude.{◌≡◌, ◌↔◌, ℕ, Bool, true, List, length}
use Rattle.std.specs.List.{Contains}
use Rattle.sm_model.specs.EventView.{EventTold}
use Rattle.sm_model.specs.GraphView.{IsShapeNumber, entries_of, maps_of}
use Rattle.sm_model.specs.Reaching.{AreMarks, IsMarked, id_of_number}
use Rattle.sm_model.specs.Relations.{Reaches}
use Rattle.sm_model.specs.declared.graph.Graph.{Graph}
use Rattle.sm_passes.specs.declared.closures.Closure.{Closure}
use Rattle.sm_passes.specs.Owned.{is_own_service}

-- these marks are those of the closure
abbrev pub AreInside : Graph → ℕ → List Bool → Type 0
AreInside g service marks = AreMarks (length (entries_of g)) (λ k. Reaches (maps_of g) (id_of_number g service) (id_of_number g k)) marks

-- the number of a service outside of the prelude
abbrev pub IsOwnServiceNumber : Graph → ℕ → Type 0
IsOwnServiceNumber g k = IsShapeNumber g k × (is_own_service (maps_of g) (id_of_number g k) ≡ true)

abbrev pub AreOwnServices : Graph → List ℕ → Type 0
AreOwnServices g ks = (k : ℕ) → Contains ks k → IsOwnServiceNumber g k

-- these marks are those of the closure of each of these services
abbrev pub AreInsideOf : Graph → List ℕ → List Bool → Type 0
AreInsideOf g ks marks = (length marks ≡ length (entries_of g)) × ((k : ℕ) → Contains ks k → AreInside g k marks)

-- a closure of each of these services: its marks, and exactly the marked numbers
pub record IsClosureOf (g : Graph) (ks : List ℕ) (c : Closure) : Type 0 where
  pub inside : AreInsideOf g ks c.marks.items
  pub found : (k : ℕ) → Contains c.found.items k ↔ IsMarked c.marks.items k

-- what is told of the services outside of the prelude
abbrev pub ToldOfServices : Graph → (ℕ → EventTold → Type 0) → EventTold → Type 0
ToldOfServices g Told e = (k : ℕ) × IsOwnServiceNumber g k × Told k e
