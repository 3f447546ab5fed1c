-- What the errors of an operation stand for: its own, and behind them those of its service but at the places at which the service names
-- one of them again.
use Rattle.std.specs.Prelude.{◌==◌, ◌<◌, ◌≤◌, ℕ, suc, List, [], ◌∷◌, ◌++◌, cond}
use Rattle.sm_service.specs.declared.error.ErrorShape.{ErrorShape}

-- places that rise, from one on and below another
abbrev pub RiseBetween : ℕ → ℕ → List ℕ → Type 0
RiseBetween low high [] = Unit {0}
RiseBetween low high (p ∷ ps) = (low ≤ p) × (p < high) × RiseBetween (suc p) high ps

-- what stands in a list, whose first has this place, but at these places, which rise
abbrev pub but_at : {X : Type 0} → List ℕ → ℕ → List X → List X
but_at places k [] = []
but_at [] k (x ∷ xs) = x ∷ xs
but_at (p ∷ ps) k (x ∷ xs) = cond (p == k) (but_at ps (suc k) xs) (x ∷ but_at (p ∷ ps) (suc k) xs)

abbrev pub joined_errors : List ErrorShape → List ℕ → List ErrorShape → List ErrorShape
joined_errors own again shared = own ++ but_at again 0 shared
