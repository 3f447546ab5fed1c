use Rattle.std.proofs.Common.{◌≡◌, ◌+◌, ◌-◌, ◌^◌, ◌<◌, length, min, drop}
use Rattle.sm_tree.specs.Pointer.{pointer}
use Rattle.sm_tree.proofs.path.Path.printed_len.Given as goal

abbrev pub invariant-loop-step : goal.invariant-loop-step
invariant-loop-step l = record {
  counted : min (l.total + length (pointer (drop l.step-index l.self))) (2 ^ 64 - 1) ≡ min (length (pointer l.self)) (2 ^ 64 - 1);
  word : l.total < 2 ^ 64;
}
