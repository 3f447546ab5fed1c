use Rattle.std.proofs.Common.{◌≡◌, ◌≤◌, take}
use Rattle.std.specs.Str.Parse.{digits_value}
use Rattle.sm_http.specs.Limits.{message_body_limit}
use Rattle.sm_http.proofs.body_fields.length_value.Given as goal

abbrev pub invariant-loop-byte : goal.invariant-loop-byte
invariant-loop-byte l = record {
  number : l.number ≡ digits_value 10 (take l.byte-index l.value);
  within : l.number ≤ message_body_limit;
}
