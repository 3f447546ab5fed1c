-- The numbers of the shapes that shapes mix in.
use Rattle.std.specs.Prelude.{◌≡◌, ◌⊎◌, ℕ, List, [], ◌∷◌, ◌++◌, map, get_or, length}
use Rattle.sm_merge.specs.steps.Links.{Links, At}
use Rattle.sm_merge.specs.steps.ShapeTables.{AreShapesOf, ids_of, shapes_view}
use Rattle.sm_merge.specs.steps.Numbered.{IsMixinWalk}
use Rattle.sm_merge.specs.Stated.{Stated}
use Rattle.sm_merge.specs.declared.walk.Walk.{Walk}
use Rattle.sm_merge.specs.steps.Walking.{StandsFrom}
use Rattle.sm_merge.specs.declared.parts.BareShape.{BareShape}

abbrev pub mixins_in : List BareShape → List (List (List ℕ))
mixins_in rows = map (λ e. e.1.mixins) (shapes_view rows)

-- among these mixins is the shape of this number
pub record HasMixin (ids mixins : List (List ℕ)) (w : ℕ) : Type 0 where
  pub id : List ℕ
  pub there : At ids w id
  pub place : ℕ
  pub among : At mixins place id

-- these are the numbers of those mixins that are there
pub record LinksTo (ids mixins : List (List ℕ)) (targets : List ℕ) : Type 0 where
  pub only : (k w : ℕ) → At targets k w → HasMixin ids mixins w
  pub all : (k w : ℕ) (id : List ℕ) → At mixins k id → At ids w id → StandsFrom targets 0 w

-- the number of one more mixin is put, if it is there
abbrev pub PutsNumber : List (List ℕ) → List ℕ → List ℕ → List ℕ → Type 0
PutsNumber ids mixin before after =
    ((w : ℕ) × At ids w mixin × (after ≡ before ++ w ∷ [])) ⊎ (((w : ℕ) → At ids w mixin → ⊥) × (after ≡ before))

-- the links of all shapes
pub record AreLinksOf (ids : List (List ℕ)) (mixins : List (List (List ℕ))) (links : Links) : Type 0 where
  pub size : length links ≡ length mixins
  pub each : (v : ℕ) (ms : List (List ℕ)) → At mixins v ms → LinksTo ids ms (get_or links v [])

-- whatever statements the shapes are of, the walk is one over their mixins
abbrev pub WalksMixins : List BareShape → Walk → Type 0
WalksMixins rows walk = (ss : List Stated) → AreShapesOf ss rows → IsMixinWalk ss (ids_of rows) walk
