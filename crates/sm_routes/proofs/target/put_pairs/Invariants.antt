use Rattle.std.proofs.Common.{◌≡◌, ◌++◌, drop, map}
use Rattle.std.specs.Prelude.{string_bytes}
use Rattle.sm_parts.specs.Targets.{written_pair}
use Rattle.sm_routes.specs.steps.Writing.{marked}
use Rattle.sm_routes.proofs.target.put_pairs.Given as goal

abbrev pub invariant-loop-pair : goal.invariant-loop-pair
invariant-loop-pair l =
    string_bytes l.out ++ marked l.is_first (map written_pair (drop l.pair-index l.pairs))
    ≡ string_bytes l.fn.out ++ marked l.first (map written_pair l.pairs)
