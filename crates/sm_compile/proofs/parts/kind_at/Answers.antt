use Rattle.std.proofs.Common.{sym}
use Rattle.sm_compile.proofs.parts.kind_at.Goals as goal

pub unreachable-requires : goal.unreachable-requires
unreachable-requires c = c.requires.shape (sym c.in-None.ensures)
