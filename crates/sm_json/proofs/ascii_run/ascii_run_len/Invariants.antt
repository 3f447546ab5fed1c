use Rattle.std.proofs.Common.{◌≡◌, ◌+◌, ◌-◌, ◌≤◌, length, drop}
use Rattle.std.specs.List.{prefix_len}
use Rattle.sm_json.specs.steps.StringRuns.{is_unescaped_ascii}
use Rattle.sm_json.proofs.ascii_run.ascii_run_len.Given as goal

abbrev pub invariant-loop-at : goal.invariant-loop-at
invariant-loop-at l = record {
  run : prefix_len is_unescaped_ascii l.bytes ≡ l.at + prefix_len is_unescaped_ascii (drop l.at l.bytes);
  within : l.at ≤ length l.bytes;
}

abbrev pub decreases-loop-at : goal.decreases-loop-at
decreases-loop-at l = length l.bytes - l.at
