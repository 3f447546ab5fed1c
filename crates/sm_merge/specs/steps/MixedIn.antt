-- The mixins that contribute to shapes, in the order in which the shapes name them.
use Rattle.std.specs.Prelude.{◌≡◌, ◌⊎◌, ◌<◌, ℕ, List, [], ◌∷◌, ◌++◌, length, Option, None, Some, slice_get}
use Rattle.std.specs.Global.{Vec}
use Rattle.sm_merge.specs.Mixins.{Contributes}
use Rattle.sm_merge.specs.Places.{shape_under}
use Rattle.sm_merge.specs.Stated.{ShapeStated, Stated}
use Rattle.sm_merge.specs.steps.Contributing.{ContributesBy}
use Rattle.sm_merge.specs.steps.Links.{At, StandsBefore}
use Rattle.sm_merge.specs.steps.ShapeTables.{ids_of}
use Rattle.sm_merge.specs.declared.mixins.Contributing.{Contributing}
use Rattle.sm_merge.specs.declared.parts.BareShape.{BareShape}

-- of these mixins of a shape, these contribute
abbrev pub MixIn : List Stated → List BareShape → ShapeStated → List (List ℕ) → List Contributing → Type 0
MixIn ss rows s [] cs = cs ≡ []
MixIn ss rows s (mixin ∷ mixins) cs =
    ((Contributes ss s mixin → ⊥) × MixIn ss rows s mixins cs)
    ⊎ ((c : Contributing) × ContributesBy ss rows s mixin c × (rest : List Contributing) × (cs ≡ c ∷ rest) × MixIn ss rows s mixins rest)

-- one more is put, if it contributes
abbrev pub PutsMixin : List Stated → List BareShape → ShapeStated → List ℕ → List Contributing → List Contributing → Type 0
PutsMixin ss rows s mixin before after =
    ((Contributes ss s mixin → ⊥) × (after ≡ before)) ⊎ ((c : Contributing) × ContributesBy ss rows s mixin c × (after ≡ before ++ c ∷ []))

-- all their numbers are below this one
abbrev pub AreBelow : ℕ → List Contributing → Type 0
AreBelow n [] = Unit {0}
AreBelow n (c ∷ cs) = (c.number < n) × AreBelow n cs

abbrev pub AllBelow : ℕ → List (Vec Contributing) → Type 0
AllBelow n [] = Unit {0}
AllBelow n (cs ∷ css) = AreBelow n cs.items × AllBelow n css

-- those of each shape of a table, by its number
pub record AreMixedIn (ss : List Stated) (rows : List BareShape) (mixed : List (Vec Contributing)) : Type 0 where
  pub size : length mixed ≡ length rows
  pub each : (v : ℕ) (id : List ℕ) (s : ShapeStated) (cs : Vec Contributing) → At (ids_of rows) v id → shape_under id ss ≡ Some s
      → At mixed v cs → MixIn ss rows s s.mixins cs.items

-- what stands at a number, or nothing
abbrev pub vec_items : {A : Type 0} → Option (Vec A) → List A
vec_items None = []
vec_items (Some xs) = xs.items

abbrev pub items_at : {A : Type 0} → List (Vec A) → ℕ → List A
items_at xs v = vec_items (slice_get xs v)

-- each number stands once in the order, behind the mixins that contribute to its shape
abbrev pub AreBehind : List ℕ → ℕ → List Contributing → Type 0
AreBehind order k [] = Unit {0}
AreBehind order k (c ∷ cs) = StandsBefore order k c.number × AreBehind order k cs

pub record IsMixedOrder (order : List ℕ) (mixed : List (Vec Contributing)) : Type 0 where
  pub once : (i k v : ℕ) → At order i v → At order k v → i ≡ k
  pub behind : (k v : ℕ) → At order k v → AreBehind order k (items_at mixed v)
