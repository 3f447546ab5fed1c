use Rattle.std.proofs.Common.{◌≡◌, drop}
use Rattle.std.specs.Str.{bytes_eq, str_to_ascii_lowercase}
use Rattle.sm_bind_write.proofs.taken.is_lower.Given as goal

abbrev pub invariant-loop-byte : goal.invariant-loop-byte
invariant-loop-byte l =
    bytes_eq (str_to_ascii_lowercase (drop l.byte-index l.text)) (drop l.byte-index l.text)
    ≡ bytes_eq (str_to_ascii_lowercase l.text) l.text
