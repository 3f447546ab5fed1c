use Rattle.std.proofs.Common.{◌≡◌, ◌++◌, drop, map}
use Rattle.sm_select.specs.Picks.{folded}
use Rattle.sm_select.proofs.compare.folded_values.Given as goal

abbrev pub invariant-loop-value : goal.invariant-loop-value
invariant-loop-value l = l.copies.items ++ map (folded l.fold) (drop l.value-index l.values) ≡ map (folded l.fold) l.values
