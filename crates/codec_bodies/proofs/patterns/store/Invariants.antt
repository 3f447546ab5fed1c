use Rattle.std.proofs.Common.{take}
use Rattle.sm_shapes.specs.InOrder.{AreStored}
use Rattle.sm_shapes.specs.LiteralStore.{texts}
use Rattle.codec_bodies.proofs.patterns.store.Given as goal

abbrev pub invariant-loop-pattern : goal.invariant-loop-pattern
invariant-loop-pattern l = AreStored (take l.pattern-index l.pattern-items) (texts l.patterns)
