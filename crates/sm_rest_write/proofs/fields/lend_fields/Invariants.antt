use Rattle.std.proofs.Common.{◌≡◌, ◌++◌, drop}
use Rattle.sm_rest.specs.messages.WrittenHeads.{fields_given}
use Rattle.sm_rest_write.proofs.fields.lend_fields.Given as goal

abbrev pub invariant-loop-field : goal.invariant-loop-field
invariant-loop-field l = fields_given l.lent.items ++ drop l.field-index l.fields ≡ fields_given l.fn.lent.items ++ l.fields
