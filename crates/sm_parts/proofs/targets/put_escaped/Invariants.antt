use Rattle.std.proofs.Common.{◌≡◌, ◌++◌, drop}
use Rattle.std.specs.Prelude.{string_bytes}
use Rattle.sm_parts.specs.Targets.{escaped}
use Rattle.sm_parts.proofs.targets.put_escaped.Given as goal

abbrev pub invariant-loop-byte : goal.invariant-loop-byte
invariant-loop-byte l = string_bytes l.out ++ escaped (drop l.byte-index l.text) ≡ string_bytes l.fn.out ++ escaped l.text
