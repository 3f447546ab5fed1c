use Rattle.sm_compile.proofs.parts.name_at.Goals as goal

pub unreachable-requires : goal.unreachable-requires
unreachable-requires c = c.in-None.ensures c.requires.named.0 c.requires.named.1
