use Rattle.std.proofs.Common.{◌≡◌, ◌+◌, ◌≤◌, length, drop}
use Rattle.sm_http.specs.FieldValues.{values_named}
use Rattle.sm_http.proofs.fields.count_named.Given as goal

abbrev pub invariant-loop-field : goal.invariant-loop-field
invariant-loop-field l = record {
  few : l.count ≤ l.field-index;
  rest : l.count + length (values_named l.name (drop l.field-index l.fields)) ≡ length (values_named l.name l.fields);
}
