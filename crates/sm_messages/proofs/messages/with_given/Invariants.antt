use Rattle.std.proofs.Common.{◌≡◌, ◌++◌, drop}
use Rattle.sm_messages.specs.WrittenHeads.{fields_given}
use Rattle.sm_messages.proofs.messages.with_given.Given as goal

abbrev pub invariant-loop-field : goal.invariant-loop-field
invariant-loop-field l = record {
  all : l.fields.items ++ fields_given (drop l.field-index l.more) ≡ l.fn.fields.items ++ fields_given l.more;
}
