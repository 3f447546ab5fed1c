use Rattle.std.proofs.Common.{sym, ap, length, ◌∙◌}
use Rattle.sm_bytes.specs.Lengths.{length_word}
use Rattle.sm_http.proofs.Printed.{written_parts}
use Rattle.sm_http.proofs.write.message_len.Goals as goal

pub returns : goal.returns
returns c = c.text_len.ensures ∙ ap (λ t. length_word (length t)) (sym (written_parts c.args.message.now))
