use Rattle.std.proofs.Common.{take}
use Rattle.sm_load.specs.steps.Suppressing.{AreOfRules, HaveOnes}
use Rattle.sm_load.proofs.suppressed.suppressors_of.Given as goal

abbrev pub invariant-loop-rule : goal.invariant-loop-rule
invariant-loop-rule l = record {
  each : AreOfRules l.graph l.all.items;
  have : HaveOnes (take l.rule-index l.rules) l.all.items;
}
