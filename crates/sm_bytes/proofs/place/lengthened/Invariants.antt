use Rattle.std.proofs.Common.{◌≡◌, ◌+◌, take, vec_len}
use Rattle.std.specs.Vec.{SameBlock}
use Rattle.sm_bytes.proofs.place.lengthened.Given as goal

abbrev pub invariant-loop : goal.invariant-loop
invariant-loop l = record {
  prefix : take (vec_len l.fn.bytes) l.bytes.items ≡ l.fn.bytes.items;
  len : vec_len l.bytes ≡ vec_len l.fn.bytes + l.counter;
  block : SameBlock l.fn.bytes l.bytes;
}
