use Rattle.std.proofs.Common.{◌≡◌, ◌++◌, drop, map, true}
use Rattle.std.specs.Prelude.{string_bytes}
use Rattle.sm_parts.specs.Targets.{written_literal}
use Rattle.sm_routes.specs.steps.Writing.{marked}
use Rattle.sm_routes.proofs.target.put_literals.Given as goal

abbrev pub invariant-loop-literal : goal.invariant-loop-literal
invariant-loop-literal l =
    string_bytes l.out ++ marked l.is_first (map written_literal (drop l.literal-index l.literals))
    ≡ string_bytes l.fn.out ++ marked true (map written_literal l.literals)
