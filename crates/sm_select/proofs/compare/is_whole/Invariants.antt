use Rattle.std.proofs.Common.{◌≡◌, drop}
use Rattle.sm_select.specs.Picks.{is_whole_number}
use Rattle.sm_select.proofs.compare.is_whole.Given as goal

abbrev pub invariant-loop-byte : goal.invariant-loop-byte
invariant-loop-byte l = is_whole_number (drop l.byte-index l.text) ≡ is_whole_number l.text
