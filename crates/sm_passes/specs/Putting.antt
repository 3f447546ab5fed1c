-- Events that are put number by number, and where a test passes.
use Rattle.std.specs.Prelude.{◌≡◌, ◌<◌, ℕ, Bool, true, List}
use Rattle.std.specs.List.{Contains}
use Rattle.sm_model.specs.EventView.{EventTold}

-- those of the numbers below this one
abbrev pub Below : (ℕ → EventTold → Type 0) → ℕ → EventTold → Type 0
Below Told n e = (k : ℕ) × (k < n) × Told k e

-- this one, where the test passes
abbrev pub IsWhere : Bool → EventTold → EventTold → Type 0
IsWhere test told e = (test ≡ true) × (e ≡ told)

-- what is told of each of these
abbrev pub ToldOf : {X : Type 0} → (X → EventTold → Type 0) → List X → EventTold → Type 0
ToldOf Told xs e = (x : _) × Contains xs x × Told x e

-- this one, where it doesn't hold
abbrev pub IsUnless : Type 0 → EventTold → EventTold → Type 0
IsUnless Holds told e = (Holds → ⊥) × (e ≡ told)
