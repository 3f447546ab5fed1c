use Rattle.std.proofs.Common.{◌≡◌, drop}
use Rattle.std.specs.Prelude.{◌==◌, ◌||◌}
use Rattle.std.specs.List.{list_any}
use Rattle.sm_bytes.specs.Ascii.{comma, quote}
use Rattle.sm_part_texts.proofs.fields.has_mark.Given as goal

abbrev pub invariant-loop-byte : goal.invariant-loop-byte
invariant-loop-byte l =
    list_any (λ b. (b == comma) || (b == quote)) (drop l.byte-index l.text) ≡ list_any (λ b. (b == comma) || (b == quote)) l.text
