-- Numbers, each with those that it leads to: ways, rings, and an order in which each comes behind those that it leads to.
use Rattle.std.specs.Prelude.{◌≡◌, ◌⊎◌, ◌<◌, ℕ, List, [], ◌∷◌, map, get_or, length, Some, slice_get}
use Rattle.std.specs.Global.{Vec}

abbrev pub Links : Type 0
Links = List (List ℕ)

abbrev pub links_view : List (Vec ℕ) → Links
links_view links = map (λ targets. targets.items) links

-- what stands at a place
abbrev pub At : {A : Type 0} → List A → ℕ → A → Type 0
At xs k x = slice_get xs k ≡ Some x

-- one number leads to the other in one step
pub record LeadsTo (links : Links) (v w : ℕ) : Type 0 where
  pub place : ℕ
  pub there : At (get_or links v []) place w

-- by these, one after the other
abbrev pub IsWay : Links → ℕ → List ℕ → ℕ → Type 0
IsWay links v [] w = LeadsTo links v w
IsWay links v (u ∷ us) w = LeadsTo links v u × IsWay links u us w

pub record Reaches (links : Links) (v w : ℕ) : Type 0 where
  pub between : List ℕ
  pub way : IsWay links v between w

-- it is this number, or leads to it
abbrev pub Comes : Links → ℕ → ℕ → Type 0
Comes links v w = (v ≡ w) ⊎ Reaches links v w

abbrev pub OnRing : Links → ℕ → Type 0
OnRing links v = Reaches links v v

-- all lead to numbers that are there
abbrev pub AreLinks : Links → Type 0
AreLinks links = (v w : ℕ) → LeadsTo links v w → w < length links

-- one of an order that stands before this place
pub record StandsBefore (order : List ℕ) (k w : ℕ) : Type 0 where
  pub place : ℕ
  pub before : place < k
  pub there : At order place w

-- each number stands once in the order, behind all that it leads to but those that are on a ring
pub record IsOrder (links : Links) (order : List ℕ) : Type 0 where
  pub all : (v : ℕ) → v < length links → StandsBefore order (length order) v
  pub within : (k v : ℕ) → At order k v → v < length links
  pub once : (i k v : ℕ) → At order i v → At order k v → i ≡ k
  pub behind : (k v w : ℕ) → At order k v → LeadsTo links v w → OnRing links w ⊎ StandsBefore order k w
