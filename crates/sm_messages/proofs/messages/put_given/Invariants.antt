-- What is put so far, and then the fields to come, is what all fields come to.
use Rattle.std.proofs.Common.{◌≡◌, ◌++◌, drop}
use Rattle.sm_http.specs.steps.Printing.{fields_text}
use Rattle.sm_messages.specs.WrittenHeads.{fields_given}
use Rattle.sm_messages.proofs.messages.put_given.Given as goal

abbrev pub invariant-loop-field : goal.invariant-loop-field
invariant-loop-field l = record {
  put : l.head.items ++ fields_text (fields_given (drop l.field-index l.more)) ≡ l.fn.head.items ++ fields_text (fields_given l.more);
}
