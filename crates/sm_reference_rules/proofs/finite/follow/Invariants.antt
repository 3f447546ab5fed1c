use Rattle.std.proofs.Common.{take}
use Rattle.std.specs.List.{Contains}
use Rattle.sm_reference_rules.specs.steps.Finding.{Knows, Waits}
use Rattle.sm_reference_rules.proofs.finite.follow.Given as goal

abbrev pub invariant-loop-at : goal.invariant-loop-at
invariant-loop-at l = record {
  knows : Knows l.graph l.known;
  waits : Waits l.graph (Contains (take l.at l.known.found.items)) l.known;
}
