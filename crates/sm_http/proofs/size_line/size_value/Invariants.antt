use Rattle.std.proofs.Common.{◌≡◌, ◌<◌, ◌^◌, take}
use Rattle.std.specs.Str.Parse.{digits_value}
use Rattle.sm_http.proofs.size_line.size_value.Given as goal

abbrev pub invariant-loop-byte : goal.invariant-loop-byte
invariant-loop-byte l = record {
  number : l.size ≡ digits_value 16 (take l.byte-index l.digits);
  below : l.size < 16 ^ l.byte-index;
}
