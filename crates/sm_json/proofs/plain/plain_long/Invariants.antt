use Rattle.std.proofs.Common.{◌-◌, ◌≤◌, length}
use Rattle.sm_json.specs.steps.Placing.{IsPlainBetween}
use Rattle.sm_json.proofs.plain.plain_long.Given as goal

abbrev pub invariant-loop-at : goal.invariant-loop-at
invariant-loop-at l = record {
  within : l.at ≤ length l.text;
  plain : IsPlainBetween l.text 0 l.at;
}

abbrev pub decreases-loop-at : goal.decreases-loop-at
decreases-loop-at l = length l.text - l.at
