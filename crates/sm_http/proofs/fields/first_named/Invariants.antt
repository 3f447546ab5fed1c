use Rattle.std.proofs.Common.{◌≡◌, drop}
use Rattle.sm_http.specs.FieldValues.{values_named}
use Rattle.sm_http.proofs.fields.first_named.Given as goal

abbrev pub invariant-loop-field : goal.invariant-loop-field
invariant-loop-field l = values_named l.name (drop l.field-index l.fields) ≡ values_named l.name l.fields
