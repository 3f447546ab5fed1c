-- Services in groups of those that lead to the same: what the parts of the walk over all services promise each other.
use Rattle.std.specs.Prelude.{◌≡◌, ◌↔◌, ◌<◌, ℕ, false, List, [], length, replicate}
use Rattle.std.specs.Global.{Vec}
use Rattle.std.specs.List.{Contains}
use Rattle.sm_model.specs.GraphView.{entries_of, maps_of}
use Rattle.sm_model.specs.Reaching.{id_of_number}
use Rattle.sm_model.specs.Relations.{Reaches}
use Rattle.sm_model.specs.declared.graph.Graph.{Graph}
use Rattle.sm_select.specs.Neighbors.{HasStep}
use Rattle.sm_passes.specs.declared.closures.Closure.{Closure}
use Rattle.sm_passes.specs.Closures.{IsOwnServiceNumber}

-- these are all services outside of the prelude
abbrev pub AreAllServices : Graph → List ℕ → Type 0
AreAllServices g ks = (k : ℕ) → Contains ks k ↔ IsOwnServiceNumber g k

-- and these all below a number
abbrev pub AreServicesBelow : Graph → ℕ → List ℕ → Type 0
AreServicesBelow g n ks = (k : ℕ) → Contains ks k ↔ ((k < n) × IsOwnServiceNumber g k)

-- services that lead to the same
abbrev pub HaveOneClosure : Graph → List ℕ → Type 0
HaveOneClosure g ks =
    (j k : ℕ) → Contains ks j → Contains ks k → (id : List ℕ) → Reaches (maps_of g) (id_of_number g j) id
    → Reaches (maps_of g) (id_of_number g k) id

-- a service outside of the prelude, behind the numbers that a step leads to from it, by these steps
abbrev pub ServiceRow : Type 0
ServiceRow = Vec ℕ × ℕ

pub record IsServiceRow (g : Graph) (steps : List (List ℕ)) (r : ServiceRow) : Type 0 where
  pub own : IsOwnServiceNumber g r.1
  pub to : (b : ℕ) → Contains r.0.items b ↔ HasStep steps r.1 b

abbrev pub AreServiceRows : Graph → List (List ℕ) → List ServiceRow → Type 0
AreServiceRows g steps rows = (r : ServiceRow) → Contains rows r → IsServiceRow g steps r

-- in each of these rows these numbers stand
abbrev pub HaveSteps : List ℕ → List ServiceRow → Type 0
HaveSteps numbers rows = (r : ServiceRow) → Contains rows r → r.0.items ≡ numbers

-- room for a closure, where nothing is found yet
pub record IsClear (g : Graph) (c : Closure) : Type 0 where
  pub marks : c.marks.items ≡ replicate (length (entries_of g)) false
  pub found : c.found.items ≡ []
