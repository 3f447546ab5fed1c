use Rattle.std.proofs.Common.{◌≡◌, drop}
use Rattle.sm_http.specs.FieldValues.{values_named}
use Rattle.sm_http.specs.FieldLists.{has_token}
use Rattle.sm_http.proofs.tokens.any_lists.Given as goal

abbrev pub invariant-loop-field : goal.invariant-loop-field
invariant-loop-field l =
    has_token l.token (values_named l.name (drop l.field-index l.fields)) ≡ has_token l.token (values_named l.name l.fields)
