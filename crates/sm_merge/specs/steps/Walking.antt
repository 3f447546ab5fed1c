-- A walk over numbers, as far as it has come. What is begun stands in a row: each number leads to all behind it. The row is cut into
-- parts, of which each has targets that are still to be followed.
use Rattle.std.specs.Prelude.{◌≡◌, ◌⊎◌, ◌↔◌, ◌<◌, ◌≤◌, ◌+◌, ℕ, Bool, true, false, List, [], ◌∷◌, ◌++◌, ◌-◌, length, reverse, take, drop}
use Rattle.std.specs.Prelude.{get_or, IsTrue, Option, Some, None}
use Rattle.std.specs.Prelude.{Result, Ok, Err, if◌then◌else◌}
use Rattle.sm_bytes.specs.declared.no_memory.NoMemory.{NoMemory}
use Rattle.sm_merge.specs.declared.walk.Part.{Part}
use Rattle.sm_merge.specs.declared.walk.Status.{Status}
use Rattle.sm_merge.specs.declared.walk.Status.TheVariants.{New, Begun, Finished}
use Rattle.sm_merge.specs.declared.walk.Walk.{Walk}
use Rattle.sm_merge.specs.steps.Links.{Links, At, LeadsTo, Reaches, Comes, OnRing, IsOrder, StandsBefore}

-- a number that is finished
pub record IsDone (status : List Status) (v : ℕ) : Type 0 where
  pub ring : Bool
  pub there : At status v (Finished ring)

abbrev pub IsMet : List Status → ℕ → Type 0
IsMet status v = At status v New → ⊥

-- a number of the row, from this place on
pub record StandsFrom (row : List ℕ) (low w : ℕ) : Type 0 where
  pub place : ℕ
  pub behind : low ≤ place
  pub there : At row place w

-- a number of the row between two places leads to it
pub record HasSource (links : Links) (row : List ℕ) (low high w : ℕ) : Type 0 where
  pub place : ℕ
  pub number : ℕ
  pub behind : low ≤ place
  pub before : place < high
  pub there : At row place number
  pub leads : LeadsTo links number w

-- where the target of a number of a part is: it is the one at hand, it is still to be followed, it is finished, or it stands in the
-- row, not before the part's first number; nor is it that number, unless the part is known to be a ring
abbrev pub first_open : Part → ℕ
first_open p = if p.ring then p.numbers else p.numbers + 1

abbrev pub IsKept : List Status → Option ℕ → List ℕ → List ℕ → Part → ℕ → Type 0
IsKept status held row targets p w =
    (held ≡ Some w) ⊎ (StandsFrom targets p.targets w ⊎ (IsDone status w ⊎ StandsFrom row (first_open p) w))

-- a part, whose numbers and targets end before these places
pub record IsSegment (links : Links) (status : List Status) (held : Option ℕ) (row targets : List ℕ) (end last : ℕ)
    (p : Part) : Type 0 where
  pub room : p.targets ≤ last
  pub sources : (k w : ℕ) → p.targets ≤ k → k < last → At targets k w → HasSource links row p.numbers end w
  pub followed : (k v w : ℕ) → p.numbers ≤ k → k < end → At row k v → LeadsTo links v w → IsKept status held row targets p w

pub record IsTied (links : Links) (row : List ℕ) (end : ℕ) (p : Part) : Type 0 where
  pub some : p.numbers < end
  pub round : p.ring ≡ true → (k v first : ℕ) → p.numbers ≤ k → k < end → At row k v → At row p.numbers first → Reaches links v first
  pub alone : p.ring ≡ false → end ≡ p.numbers + 1

-- the parts from the last one on
abbrev pub AreParts : Links → List Status → Option ℕ → List ℕ → List ℕ → ℕ → ℕ → List Part → Type 0
AreParts links status held row targets end last [] = end ≡ 0
AreParts links status held row targets end last (p ∷ ps) =
    IsSegment links status held row targets end last p × IsTied links row end p
    × AreParts links status held row targets p.numbers p.targets ps

-- what doesn't speak of the parts
pub record IsGrounded (links : Links) (status : List Status) (row targets order : List ℕ) : Type 0 where
  pub size : length status ≡ length links
  pub begun : (k v : ℕ) → At status v (Begun k) → At row k v
  pub in_row : (k v : ℕ) → At row k v → At status v (Begun k)
  pub within : (k w : ℕ) → At targets k w → w < length links
  pub chain : (i k v w : ℕ) → i ≤ k → At row i v → At row k w → Comes links v w
  pub closed : (v w : ℕ) → IsDone status v → LeadsTo links v w → IsDone status w
  pub told : (v : ℕ) (ring : Bool) → At status v (Finished ring) → (ring ≡ true) ↔ OnRing links v
  pub placed : (v : ℕ) → IsDone status v → StandsBefore order (length order) v
  pub listed : (k v : ℕ) → At order k v → IsDone status v
  pub once : (i k v : ℕ) → At order i v → At order k v → i ≡ k
  pub behind : (k v w : ℕ) → At order k v → LeadsTo links v w → OnRing links w ⊎ StandsBefore order k w

-- the walk, with the target at hand
pub record IsWalking (links : Links) (held : Option ℕ) (walk : Walk) : Type 0 where
  pub grounded : IsGrounded links walk.status.items walk.row.items walk.targets.items walk.order.items
  pub parts : AreParts links walk.status.items held walk.row.items walk.targets.items (length walk.row.items) (length walk.targets.items)
      (reverse walk.path.items)

-- all of the row lead to the target at hand
abbrev pub AllReach : Links → List ℕ → ℕ → Type 0
AllReach links row w = (k v : ℕ) → At row k v → Reaches links v w

-- a target was taken, and is still to be followed
pub record HasTaken (links : Links) (w : ℕ) (walk : Walk) : Type 0 where
  pub within : w < length links
  pub walking : IsWalking links (Some w) walk
  pub reached : AllReach links walk.row.items w

-- nothing is begun
pub record IsIdle (links : Links) (walk : Walk) : Type 0 where
  pub walking : IsWalking links None walk
  pub ended : walk.path.items ≡ []

-- what was met stays so
abbrev pub KeepsMet : Walk → Walk → Type 0
KeepsMet before now = (v : ℕ) → IsMet before.status.items v → IsMet now.status.items v

-- these numbers are finished, and nothing else is changed
pub record AreMarked (numbers : List ℕ) (ring : Bool) (before now : List Status) : Type 0 where
  pub marked : (k v : ℕ) → At numbers k v → At now v (Finished ring)
  pub kept : (v : ℕ) (s : Status) → At before v s → At now v s ⊎ StandsFrom numbers 0 v
  pub only : (v : ℕ) (s : Status) → At now v s → At before v s ⊎ ((s ≡ Finished ring) × StandsFrom numbers 0 v)

-- the steps that are left at most: two for each number that wasn't met, and one for each target
abbrev pub new_steps : Status → ℕ → ℕ
new_steps New targets = targets + 2
new_steps (Begun place) targets = 0
new_steps (Finished ring) targets = 0

abbrev pub steps_ahead : Links → List Status → ℕ
steps_ahead [] status = 0
steps_ahead (targets ∷ links) [] = 0
steps_ahead (targets ∷ links) (s ∷ status) = new_steps s (length targets) + steps_ahead links status

abbrev pub steps_left : Links → Walk → ℕ
steps_left links walk = steps_ahead links walk.status.items + length walk.targets.items + length walk.path.items

-- a step, or that there is none
abbrev pub TakesStep : Links → Walk → Walk → Result Bool NoMemory → Type 0
TakesStep links before now (Ok true) = IsWalking links None now × KeepsMet before now × (steps_left links now < steps_left links before)
TakesStep links before now (Ok false) = IsIdle links now × KeepsMet before now
TakesStep links before now (Err e) = Unit {0}

-- a number that was at hand is begun, or one in the row is led back to
pub record HasGone (links : Links) (before now : Walk) : Type 0 where
  pub walking : IsWalking links None now
  pub met : KeepsMet before now
  pub nearer : steps_left links now ≤ steps_left links before

-- the walk over all numbers: which stand on a ring, and the order
abbrev pub is_ring : Status → Bool
is_ring New = false
is_ring (Begun place) = false
is_ring (Finished ring) = ring

pub record IsWalked (links : Links) (walk : Walk) : Type 0 where
  pub size : length walk.status.items ≡ length links
  pub rings : (v : ℕ) → v < length links → IsTrue (is_ring (get_or walk.status.items v New)) ↔ OnRing links v
  pub order : IsOrder links walk.order.items

-- parts that become one with those behind them, down to the place of a number that the last one leads to
pub record IsJoining (links : Links) (status : List Status) (row targets : List ℕ) (w m : ℕ) (ps : List Part) : Type 0 where
  pub end : ℕ
  pub last : ℕ
  pub parts : AreParts links status (Some w) row targets end last ps
  pub upper : IsSegment links status (Some w) row targets (length row) (length targets)
      (record { numbers = end; targets = last; ring = true })
  pub place : m < end

-- the numbers of the last part are finished
pub record HasFinished (p : Part) (before now : Walk) : Type 0 where
  pub size : length now.status.items ≡ length before.status.items
  pub marked : AreMarked (drop p.numbers before.row.items) p.ring before.status.items now.status.items
  pub row : now.row.items ≡ take p.numbers before.row.items
  pub targets : now.targets.items ≡ before.targets.items
  pub order : now.order.items ≡ before.order.items ++ drop p.numbers before.row.items
  pub path : now.path.items ≡ take (length before.path.items - 1) before.path.items
