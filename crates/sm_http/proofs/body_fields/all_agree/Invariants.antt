use Rattle.std.proofs.Common.{◌≡◌, drop}
use Rattle.std.specs.List.{list_all}
use Rattle.sm_http.specs.FieldValues.{values_named}
use Rattle.sm_http.specs.BodyFields.{agrees}
use Rattle.sm_http.proofs.body_fields.all_agree.Given as goal

abbrev pub invariant-loop-field : goal.invariant-loop-field
invariant-loop-field l =
    list_all (agrees l.first) (values_named l.name (drop l.field-index l.fields))
    ≡ list_all (agrees l.first) (values_named l.name l.fields)
