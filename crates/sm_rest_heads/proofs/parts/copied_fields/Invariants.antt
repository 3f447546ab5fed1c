use Rattle.std.proofs.Common.{◌≡◌, ◌++◌, drop}
use Rattle.sm_rest_heads.proofs.parts.copied_fields.Given as goal

abbrev pub invariant-loop-field : goal.invariant-loop-field
invariant-loop-field l = l.copies.items ++ drop l.field-index l.fields ≡ l.fields
