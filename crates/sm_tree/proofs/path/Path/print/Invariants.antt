use Rattle.std.proofs.Common.{◌≡◌, ◌++◌, string_bytes, drop}
use Rattle.sm_tree.specs.Pointer.{pointer}
use Rattle.sm_tree.proofs.path.Path.print.Given as goal

abbrev pub invariant-loop-step : goal.invariant-loop-step
invariant-loop-step l = string_bytes l.out ++ pointer (drop l.step-index l.self) ≡ pointer l.self
