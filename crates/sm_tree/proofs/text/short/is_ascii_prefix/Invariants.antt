use Rattle.std.proofs.Common.{◌↔◌, IsTrue}
use Rattle.sm_tree.proofs.ShortTexts.{AsciiBefore}
use Rattle.sm_tree.proofs.text.short.is_ascii_prefix.Given as goal

abbrev pub invariant-loop-at : goal.invariant-loop-at
invariant-loop-at l = IsTrue l.ascii ↔ AsciiBefore l.at l.len l.bytes
