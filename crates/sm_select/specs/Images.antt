-- Where a relation between the shapes and members of a graph leads, by numbers: sets of numbers are marks.
use Rattle.std.specs.Prelude.{ℕ, Bool, true, false, List, length}
use Rattle.sm_model.specs.GraphView.{entries_of}
use Rattle.sm_model.specs.Reaching.{AreMarks, IsMarked, id_of_number}
use Rattle.sm_model.specs.declared.graph.Graph.{Graph}

-- it leads to the number from a marked one
abbrev pub IsImage : Graph → List Bool → (List ℕ → List ℕ → Type 0) → ℕ → Type 0
IsImage g starts Leads b = (a : ℕ) × IsMarked starts a × Leads (id_of_number g a) (id_of_number g b)

-- exactly the numbers to which it leads from marked ones are marked
abbrev pub AreImage : Graph → List Bool → (List ℕ → List ℕ → Type 0) → List Bool → Type 0
AreImage g starts Leads marks = AreMarks (length (entries_of g)) (IsImage g starts Leads) marks

-- a relation, and the same the other way round
abbrev pub turned : Bool → (List ℕ → List ℕ → Type 0) → List ℕ → List ℕ → Type 0
turned false Leads from to = Leads from to
turned true Leads from to = Leads to from
