use Rattle.std.proofs.Common.{◌≡◌, ◌+◌, drop}
use Rattle.std.specs.List.{count_by}
use Rattle.sm_parts.specs.Targets.{is_slash}
use Rattle.sm_routes.proofs.matching.piece_count.Given as goal

abbrev pub invariant-loop-byte : goal.invariant-loop-byte
invariant-loop-byte l = l.count + count_by is_slash (drop l.byte-index l.path) ≡ count_by is_slash l.path + 1
