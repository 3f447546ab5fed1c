use Rattle.std.proofs.Common.{◌≡◌, drop}
use Rattle.std.specs.Char.{to_ascii_lowercase}
use Rattle.std.specs.List.{list_all}
use Rattle.httparse.specs.Grammar.{is_token_byte}
use Rattle.sm_bind_write.proofs.taken.are_token_bytes.Given as goal

abbrev pub invariant-loop-byte : goal.invariant-loop-byte
invariant-loop-byte l =
    list_all (λ b. is_token_byte (to_ascii_lowercase b)) (drop l.byte-index l.text)
    ≡ list_all (λ b. is_token_byte (to_ascii_lowercase b)) l.text
