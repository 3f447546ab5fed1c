use Rattle.std.proofs.Common.{◌≡◌, ◌++◌, drop}
use Rattle.std.specs.Prelude.{string_bytes}
use Rattle.sm_parts.specs.Targets.{escaped_path}
use Rattle.sm_parts.proofs.targets.put_escaped_path.Given as goal

abbrev pub invariant-loop-byte : goal.invariant-loop-byte
invariant-loop-byte l = string_bytes l.out ++ escaped_path (drop l.byte-index l.text) ≡ string_bytes l.fn.out ++ escaped_path l.text
