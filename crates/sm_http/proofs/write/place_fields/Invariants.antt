-- What is placed so far, and then the fields to come, is what all fields come to.
use Rattle.std.proofs.Common.{◌≡◌, ◌+◌, ◌++◌, length, take, drop}
use Rattle.sm_http.specs.steps.Printing.{fields_text}
use Rattle.sm_http.proofs.write.place_fields.Given as goal

abbrev pub invariant-loop-field : goal.invariant-loop-field
invariant-loop-field l = record {
  bytes : take l.at l.buf ++ fields_text (drop l.field-index l.fields) ≡ take l.fn.at l.fn.buf ++ fields_text l.fields;
  next : l.at + length (fields_text (drop l.field-index l.fields)) ≡ l.fn.at + length (fields_text l.fields);
}
