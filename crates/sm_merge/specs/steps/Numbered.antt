-- Shapes by numbers: the number of a shape is the place of its id, and it leads to the shapes that it mixes in.
use Rattle.std.specs.Prelude.{◌≡◌, ◌⊎◌, ◌↔◌, ◌<◌, ℕ, List, get_or, length, IsTrue, Some}
use Rattle.sm_merge.specs.Stated.{ShapeStated, Stated}
use Rattle.sm_merge.specs.Places.{shape_under}
use Rattle.sm_merge.specs.Mixins.{IsOnCycle, MixesIn}
use Rattle.sm_merge.specs.steps.Links.{Links, At, LeadsTo, StandsBefore}
use Rattle.sm_merge.specs.steps.Walking.{is_ring}
use Rattle.sm_merge.specs.declared.walk.Status.TheVariants.{New}
use Rattle.sm_merge.specs.declared.walk.Walk.{Walk}

pub record HasNumber (ids : List (List ℕ)) (id : List ℕ) : Type 0 where
  pub number : ℕ
  pub there : At ids number id

-- these are the ids of all shapes, each once
pub record AreShapeIds (ss : List Stated) (ids : List (List ℕ)) : Type 0 where
  pub all : (id : List ℕ) (s : ShapeStated) → shape_under id ss ≡ Some s → HasNumber ids id
  pub once : (v w : ℕ) (id : List ℕ) → At ids v id → At ids w id → v ≡ w

-- one number leads to the other where the one's shape mixes in the other's
pub record AreMixinLinks (ss : List Stated) (ids : List (List ℕ)) (links : Links) : Type 0 where
  pub size : length links ≡ length ids
  pub mixes : (v w : ℕ) (id mixin : List ℕ) → At ids v id → At ids w mixin → LeadsTo links v w → MixesIn ss id mixin
  pub leads : (v w : ℕ) (id mixin : List ℕ) → At ids v id → At ids w mixin → MixesIn ss id mixin → LeadsTo links v w
  pub within : (v w : ℕ) → LeadsTo links v w → w < length links

-- a walk from each shape to those that it mixes in: which are on a cycle, and an order in which each stands once, behind its mixins
-- that are on none
pub record IsMixinWalk (ss : List Stated) (ids : List (List ℕ)) (walk : Walk) : Type 0 where
  pub size : length walk.status.items ≡ length ids
  pub on_cycle : (v : ℕ) (id : List ℕ) → At ids v id → IsTrue (is_ring (get_or walk.status.items v New)) ↔ IsOnCycle ss id
  pub all : (v : ℕ) → v < length ids → StandsBefore walk.order.items (length walk.order.items) v
  pub within : (k v : ℕ) → At walk.order.items k v → v < length ids
  pub once : (i k v : ℕ) → At walk.order.items i v → At walk.order.items k v → i ≡ k
  pub behind : (k v w : ℕ) (id mixin : List ℕ) → At walk.order.items k v → At ids v id → At ids w mixin → MixesIn ss id mixin
      → IsOnCycle ss mixin ⊎ StandsBefore walk.order.items k w
