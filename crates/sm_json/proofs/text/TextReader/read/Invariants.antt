use Rattle.std.proofs.Common.{◌≤◌, ◌-◌, length, take}
use Rattle.sm_json.specs.steps.StringReading.{ReadsOn}
use Rattle.sm_json.proofs.text.TextReader.read.Given as goal

abbrev pub invariant-loop-at : goal.invariant-loop-at
invariant-loop-at l = record { within : l.at ≤ length l.bytes; on : ReadsOn l.fn.self l.self (take l.at l.bytes) }

abbrev pub decreases-loop-at : goal.decreases-loop-at
decreases-loop-at l = length l.initial.bytes - l.at
