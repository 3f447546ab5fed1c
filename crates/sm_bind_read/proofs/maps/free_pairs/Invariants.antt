use Rattle.std.proofs.Common.{◌≡◌, ◌++◌, drop, filter}
use Rattle.sm_bind_read.specs.steps.Sources.{is_free}
use Rattle.sm_bind_read.specs.steps.Taken.{has_text}
use Rattle.sm_bind_read.proofs.maps.free_pairs.Given as goal

abbrev pub invariant-loop-pair : goal.invariant-loop-pair
invariant-loop-pair l =
    l.rows.items ++ filter (is_free (has_text l.taken)) (drop l.pair-index l.pairs) ≡ filter (is_free (has_text l.taken)) l.pairs
