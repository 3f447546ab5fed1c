use Rattle.std.proofs.Common.{◌≡◌, drop}
use Rattle.std.specs.List.{list_all}
use Rattle.sm_parts.specs.Texts.{is_field_byte}
use Rattle.sm_part_texts.proofs.carried.are_field_bytes.Given as goal

abbrev pub invariant-loop-byte : goal.invariant-loop-byte
invariant-loop-byte l = list_all is_field_byte (drop l.byte-index l.text) ≡ list_all is_field_byte l.text
