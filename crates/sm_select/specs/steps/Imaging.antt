-- What the parts of `select` promise each other: what is looked up once for all steps, and the numbers from which something is picked.
use Rattle.std.specs.Prelude.{ℕ, Bool, true, false, List, [], ◌∷◌, length}
use Rattle.sm_model.specs.GraphView.{IsShapeNumber, entries_of, maps_of}
use Rattle.sm_model.specs.declared.graph.Graph.{Graph}
use Rattle.sm_model.specs.Reaching.{AreMarks, id_of_number}
use Rattle.sm_select.specs.Images.{AreImage, IsImage}
use Rattle.sm_select.specs.Picks.{Picks}
use Rattle.sm_select.specs.Selectors.{Steps}
pub use Rattle.sm_select.specs.Ways.{AreSteps, AreWays}

-- it leads to the number of a shape from a marked one
abbrev pub IsInImage : Graph → List Bool → (List ℕ → List ℕ → Type 0) → ℕ → Type 0
IsInImage g starts Leads k = IsShapeNumber g k × IsImage g starts Leads k

-- whatever the rest of some steps leads to from these marks is what all lead to from the starts
abbrev pub LeadsOn : Graph → List Bool → List Bool → Steps → Steps → Type 0
LeadsOn g starts marks rest all =
    (final : List Bool) → AreImage g marks (Picks (maps_of g) rest) final → AreImage g starts (Picks (maps_of g) all) final

-- exactly the numbers are marked from which it leads somewhere
abbrev pub ArePicking : Graph → (List ℕ → List ℕ → Type 0) → List Bool → Type 0
ArePicking g Leads marks = AreMarks (length (entries_of g)) (λ k. (other : List ℕ) × Leads (id_of_number g k) other) marks

-- the ids that are marked
abbrev pub marked_ids : List Bool → List (List ℕ) → List (List ℕ)
marked_ids [] ids = []
marked_ids (m ∷ ms) [] = []
marked_ids (true ∷ ms) (id ∷ ids) = id ∷ marked_ids ms ids
marked_ids (false ∷ ms) (id ∷ ids) = marked_ids ms ids
