use Rattle.std.proofs.Common.{arith}
use Rattle.sm_io.proofs.memory.MemSinkSink.put.Goals as goal

pub returns-clause-failing : goal.returns-clause-failing
returns-clause-failing c =
    (λ failed. absurd (c.append.ensures.calm failed), λ listed. grind (arith, listed, c.if-next_fails.ensures.listed))
