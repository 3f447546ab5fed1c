use Rattle.std.proofs.Common.{◌≡◌, ◌+◌, drop}
use Rattle.std.specs.List.{position_or_len}
use Rattle.sm_parts.specs.Cuts.{is_mark}
use Rattle.sm_parts.proofs.cut.mark_place.Given as goal

abbrev pub invariant-loop-at : goal.invariant-loop-at
invariant-loop-at l = l.at + position_or_len (is_mark l.mark) (drop l.at l.bytes) ≡ position_or_len (is_mark l.mark) l.bytes
