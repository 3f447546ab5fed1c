use Rattle.std.proofs.Common.{take}
use Rattle.std.specs.List.{Contains}
use Rattle.sm_reference_rules.specs.steps.Finding.{Moves}
use Rattle.sm_reference_rules.proofs.finite.look_at_each.Given as goal

abbrev pub invariant-loop-shape : goal.invariant-loop-shape
invariant-loop-shape l = Moves l.graph (Contains (take l.shape-index l.shapes)) l.initial.known l.known
