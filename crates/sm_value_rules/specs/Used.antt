-- What stands as a trait somewhere in a graph.
use Rattle.std.specs.Prelude.{◌≡◌, ℕ, Bool, List, Some, length}
use Rattle.sm_tree.specs.Node.{Node}
use Rattle.sm_model.specs.GraphView.{IsShapeNumber, entries_of, maps_of}
use Rattle.sm_model.specs.Reaching.{AreMarks, id_of_number}
use Rattle.sm_model.specs.declared.graph.Graph.{Graph}
use Rattle.sm_compile.specs.Sound.{trait_of}

-- an id carries the trait at a number; some shape or member does
abbrev pub IsUsedBy : Graph → List ℕ → ℕ → Type 0
IsUsedBy g id k = (n : Node) × (trait_of (maps_of g) id (id_of_number g k) ≡ Some n)

abbrev pub IsUsed : Graph → ℕ → Type 0
IsUsed g k = (j : ℕ) × IsShapeNumber g j × IsUsedBy g (id_of_number g j) k

-- exactly what stands as a trait is marked
abbrev pub AreUsed : Graph → List Bool → Type 0
AreUsed g marks = AreMarks (length (entries_of g)) (IsUsed g) marks
