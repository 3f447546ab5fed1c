-- When a fault may be answered: only where the count of faults rose. A count is a number of 64 bits.
use Rattle.std.specs.Prelude.{◌≡◌, ℕ, ◌+◌, ◌-◌, ◌^◌, ◌<◌, ◌≤◌, Bool, cond, min}

-- the last number of a count, at which it stays
abbrev pub last_count : ℕ
last_count = 2 ^ 64 - 1

abbrev pub next_count : ℕ → ℕ
next_count count = min (count + 1) last_count

-- the count rose in between, or stands at its last number
abbrev pub Rose : ℕ → ℕ → Type 0
Rose before now = next_count before ≤ now

-- the count didn't rise in between: it is the same, and not at its last number
pub record Quiet (before now : ℕ) : Type 0 where
  pub same : now ≡ before
  pub below : before < last_count

-- a fault is answered only where the count rose
abbrev pub HasCause : Type 0 → ℕ → ℕ → Type 0
HasCause IsFault before now = IsFault → Rose before now

-- the count behind a call: one more where the call failed, and else the same
abbrev pub count_after : Bool → ℕ → ℕ
count_after failed before = cond failed (next_count before) before
