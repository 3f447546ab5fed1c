use Rattle.std.proofs.Common.{◌≡◌, drop}
use Rattle.std.specs.Prelude.{codes}
use Rattle.std.specs.List.{list_all}
use Rattle.sm_http.specs.FieldValues.{values_named}
use Rattle.sm_messages.specs.Heads.{is_identity}
use Rattle.sm_messages.proofs.heads.is_plain.Given as goal

abbrev pub invariant-loop-field : goal.invariant-loop-field
invariant-loop-field l =
    list_all is_identity (values_named (codes "content-encoding") (drop l.field-index l.field-items))
    ≡ list_all is_identity (values_named (codes "content-encoding") l.head.fields)
