use Rattle.std.proofs.Common.{◌≡◌, ◌+◌, ◌++◌, length, take}
use Rattle.sm_json.specs.Written.{written_bytes}
use Rattle.sm_json.proofs.put.place_escaped.Given as goal

abbrev pub invariant-loop-byte : goal.invariant-loop-byte
invariant-loop-byte l = record {
  bytes : take l.at l.buf ++ written_bytes l.rest ≡ take l.fn.at l.fn.buf ++ written_bytes l.text;
  next : l.at + length (written_bytes l.rest) ≡ l.fn.at + length (written_bytes l.text);
}

abbrev pub decreases-loop-byte : goal.decreases-loop-byte
decreases-loop-byte l = length l.rest
