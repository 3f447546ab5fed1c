use Rattle.std.proofs.Common.{◌≤◌, ◌-◌, length, take}
use Rattle.sm_json.specs.steps.StringRuns.{IsPlainRun}
use Rattle.sm_json.proofs.utf8.plain_len.Given as goal

abbrev pub invariant-loop-at : goal.invariant-loop-at
invariant-loop-at l = record { within : l.at ≤ length l.bytes; run : IsPlainRun (take l.at l.bytes) }

abbrev pub decreases-loop-at : goal.decreases-loop-at
decreases-loop-at l = length l.initial.bytes - l.at
