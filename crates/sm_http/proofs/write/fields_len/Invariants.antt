use Rattle.std.proofs.Common.{◌≡◌, ◌+◌, ◌-◌, ◌^◌, ◌≤◌, length, drop}
use Rattle.sm_bytes.specs.Lengths.{length_word}
use Rattle.sm_http.specs.steps.Printing.{fields_text}
use Rattle.sm_http.proofs.write.fields_len.Given as goal

abbrev pub invariant-loop-field : goal.invariant-loop-field
invariant-loop-field l = record {
  total : length_word (l.len + length (fields_text (drop l.field-index l.fields))) ≡ length_word (length (fields_text l.fields));
  fits : l.len ≤ 2 ^ 64 - 1;
}
