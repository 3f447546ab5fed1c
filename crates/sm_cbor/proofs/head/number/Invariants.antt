use Rattle.std.proofs.Common.{ℕ, ◌-◌, ◌<◌, [], length, drop}
use Rattle.sm_cbor.specs.Heads.{Number}
use Rattle.sm_cbor.specs.steps.Reading.{bound}
use Rattle.sm_cbor.proofs.head.number.Given as goal

abbrev pub invariant-loop-byte : goal.invariant-loop-byte
invariant-loop-byte l = record {
  below : l.number < bound (length l.bytes - l.byte-index);
  carried : (n : ℕ) → Number (length l.bytes - l.byte-index) l.number n (drop l.byte-index l.bytes) []
      → Number (length l.bytes) l.value n l.bytes [];
}
