use Rattle.std.proofs.Common.{◌≡◌, ◌+◌, drop}
use Rattle.std.specs.List.{prefix_len}
use Rattle.sm_bytes.proofs.run.run_len.Given as goal

abbrev pub invariant-loop-at : goal.invariant-loop-at
invariant-loop-at g l = l.at + prefix_len g.C.ByteClass.holds (drop l.at l.bytes) ≡ prefix_len g.C.ByteClass.holds l.bytes
