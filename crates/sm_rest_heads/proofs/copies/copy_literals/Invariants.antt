use Rattle.std.proofs.Common.{◌≡◌, ◌++◌, drop}
use Rattle.sm_rest_heads.proofs.copies.copy_literals.Given as goal

abbrev pub invariant-loop-literal : goal.invariant-loop-literal
invariant-loop-literal l = l.copies.items ++ drop l.literal-index l.literals ≡ l.literals
