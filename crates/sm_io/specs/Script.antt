-- What an object over memory was told to do in its calls, which are counted from 1.
use Rattle.std.specs.Prelude.{ℕ, ◌-◌, Bool, List, min, ◌==◌, slice_index_or}
use Rattle.std.specs.List.{list_any}
use Rattle.sm_io.specs.Causes.{next_count}

-- the greatest counts of bytes that its calls give, the calls that fail, and how many were made
pub record Script : Type 0 where
  pub cuts : List ℕ
  pub failing : List ℕ
  pub calls : ℕ

-- the script behind one call more
abbrev pub script_after : Script → Script
script_after script = record { cuts = script.cuts; failing = script.failing; calls = next_count script.calls }

-- the call that was counted last is one of those that fail
abbrev pub is_failing : Script → Bool
is_failing script = list_any (λ call. call == script.calls) script.failing

-- at most so many bytes that call gives into this room: its cut, or past the last cut all that fits
abbrev pub most_given : Script → ℕ → ℕ
most_given script room = min (slice_index_or script.cuts (script.calls - 1) room) room
