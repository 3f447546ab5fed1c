-- Sets of numbers as marks, and where steps lead to from some numbers, over any relation between numbers.
use Rattle.std.specs.Prelude.{◌≡◌, ◌↔◌, ◌+◌, ◌<◌, ℕ, Bool, false, true, List, [], ◌∷◌, ◌++◌, get_or, length, not}
use Rattle.std.specs.List.{Contains, count_by}
use Rattle.sm_model.specs.GraphView.{ids}
use Rattle.sm_model.specs.declared.graph.Graph.{Graph}
use Rattle.sm_model.specs.Joins.{Joins}

-- the id that stands at a number
abbrev pub id_of_number : Graph → ℕ → List ℕ
id_of_number g k = get_or (ids g) k []

-- a number is marked
abbrev pub IsMarked : List Bool → ℕ → Type 0
IsMarked marks k = get_or marks k false ≡ true

-- of so many marks exactly those are set at whose numbers it holds
pub record AreMarks (count : ℕ) (Holds : ℕ → Type 0) (marks : List Bool) : Type 0 where
  pub whole : length marks ≡ count
  pub marked : (k : ℕ) → IsMarked marks k ↔ ((k < count) × Holds k)

-- the numbers that were found are those that are marked, each once
pub record AreFound (marks : List Bool) (found : List ℕ) : Type 0 where
  pub marked : (k : ℕ) → IsMarked marks k ↔ Contains found k
  pub few : length found + count_by not marks ≡ length marks

-- exactly these were found too
pub record Finds (P : ℕ → Type 0) (marks : List Bool) (found : List ℕ) (marks_now : List Bool) (found_now : List ℕ) : Type 0 where
  pub are : AreFound marks_now found_now
  pub count : length marks_now ≡ length marks
  pub later : List ℕ
  pub behind : found_now ≡ found ++ later
  pub joins : Joins (Contains found) P (Contains found_now)

-- by these steps, one after the other, the last of which ends there
abbrev pub LeadsOn : (ℕ → ℕ → Type 0) → ℕ → List ℕ → ℕ → Type 0
LeadsOn R a [] b = a ≡ b
LeadsOn R a (next ∷ more) b = R a next × LeadsOn R next more b

-- no step or more lead to a number from one of these
abbrev pub IsLedTo : (ℕ → ℕ → Type 0) → List ℕ → ℕ → Type 0
IsLedTo R starts b = (a : ℕ) × Contains starts a × ((steps : List ℕ) × LeadsOn R a steps b)

-- exactly these numbers are marked
abbrev pub AreLedTo : (ℕ → ℕ → Type 0) → List ℕ → List Bool → Type 0
AreLedTo R starts marks = (b : ℕ) → IsMarked marks b ↔ IsLedTo R starts b

-- what was found is led to from the starts, which are among it, and so is what a step leads to from the first of it
pub record Spreads (R : ℕ → ℕ → Type 0) (starts : List ℕ) (at : ℕ) (found : List ℕ) : Type 0 where
  pub first : (b : ℕ) → Contains starts b → Contains found b
  pub reached : (b : ℕ) → Contains found b → IsLedTo R starts b
  pub taken : (i : ℕ) → i < at → (b : ℕ) → R (get_or found i 0) b → Contains found b
