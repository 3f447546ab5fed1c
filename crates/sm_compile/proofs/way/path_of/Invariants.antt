use Rattle.std.proofs.Common.{◌≡◌, ◌++◌, drop}
use Rattle.std.specs.Prelude.{string_bytes}
use Rattle.sm_compile.specs.steps.Walking.{path_by}
use Rattle.sm_compile.proofs.way.path_of.Given as goal

abbrev pub invariant-loop-step : goal.invariant-loop-step
invariant-loop-step l = string_bytes l.path ++ path_by (drop l.step-index l.above) l.last ≡ path_by l.above l.last
