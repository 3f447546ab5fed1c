use Rattle.std.proofs.Common.{◌≡◌, ◌++◌, drop}
use Rattle.sm_http.specs.FieldValues.{values_named}
use Rattle.sm_parts.specs.HeaderLists.{filled}
use Rattle.sm_bind_read.proofs.fields.field_texts.Given as goal

abbrev pub invariant-loop-field : goal.invariant-loop-field
invariant-loop-field l =
    l.texts.items ++ filled (values_named l.name (drop l.field-index l.fields)) ≡ filled (values_named l.name l.fields)
