use Rattle.std.proofs.Common.{◌≡◌, ◌++◌, drop}
use Rattle.std.specs.List.{join_with_byte}
use Rattle.sm_bytes.specs.Ascii.{comma}
use Rattle.sm_bind_read.specs.steps.Sources.{joined_on}
use Rattle.sm_bind_read.proofs.fields.joined.Given as goal

abbrev pub invariant-loop-index : goal.invariant-loop-index
invariant-loop-index l = l.bytes.items ++ joined_on l.index (drop l.index l.texts) ≡ join_with_byte comma l.texts
