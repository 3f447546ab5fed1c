use Rattle.std.proofs.Common.{◌≡◌, ◌+◌, length}
use Rattle.sm_bytes.specs.Lengths.{length_word}
use Rattle.sm_json.specs.Written.{written_bytes}
use Rattle.sm_json.proofs.length.escaped_len.Given as goal

abbrev pub invariant-loop-byte : goal.invariant-loop-byte
invariant-loop-byte l = length_word (l.len + length (written_bytes l.rest)) ≡ length_word (length (written_bytes l.text))

abbrev pub decreases-loop-byte : goal.decreases-loop-byte
decreases-loop-byte l = length l.rest
