use Rattle.std.proofs.Common.{◌≡◌, drop}
use Rattle.std.specs.List.{list_all}
use Rattle.httparse.specs.Grammar.{is_token_byte}
use Rattle.sm_bind_write.proofs.taken.are_lower_token_bytes.Given as goal

abbrev pub invariant-loop-byte : goal.invariant-loop-byte
invariant-loop-byte l = list_all is_token_byte (drop l.byte-index l.text) ≡ list_all is_token_byte l.text
