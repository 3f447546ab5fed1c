-- What the parts of the worklist promise each other.
use Rattle.std.specs.Prelude.{◌⊎◌, ◌<◌, ℕ, Bool, List, [], ◌∷◌}
use Rattle.sm_model.specs.Reaching.{IsMarked}
use Rattle.sm_model.specs.declared.link.Link.{Link}
use Rattle.sm_select.specs.Neighbors.{HasStep, IsStepOf}

-- it holds of one of these
abbrev pub AnyOf : {X : Type 0} → (X → Type 0) → List X → Type 0
AnyOf P [] = ⊥
AnyOf P (x ∷ xs) = P x ⊎ AnyOf P xs

-- the steps of some links
abbrev pub StepsOf : Bool → List Link → ℕ → ℕ → Type 0
StepsOf back ls a b = AnyOf (λ l. IsStepOf back l a b) ls

-- a step leads to a number from a start below a bound
abbrev pub StepsFrom : List (List ℕ) → List Bool → ℕ → ℕ → Type 0
StepsFrom rows starts bound b = (a : ℕ) × (a < bound) × IsMarked starts a × HasStep rows a b

-- the steps from this number were taken, where it is a start
abbrev pub StepsFromStart : List (List ℕ) → List Bool → ℕ → ℕ → Type 0
StepsFromStart rows starts a b = IsMarked starts a × HasStep rows a b
