use Rattle.std.proofs.Common.{◌↔◌, drop}
use Rattle.sm_select.specs.Picks.{StandsToOne}
use Rattle.sm_select.proofs.compare.stands_to_one.Given as goal

abbrev pub invariant-loop-value : goal.invariant-loop-value
invariant-loop-value l = StandsToOne l.op l.text (drop l.value-index l.values) ↔ StandsToOne l.op l.text l.values
