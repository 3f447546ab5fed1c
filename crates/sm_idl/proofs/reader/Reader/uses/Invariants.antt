use Rattle.std.proofs.Common.{length}
use Rattle.sm_idl.specs.steps.ReaderView.{left}
use Rattle.sm_idl.proofs.ReadBeginning.{UsesSoFar}
use Rattle.sm_idl.proofs.reader.Reader.uses.Given as goal

abbrev pub invariant-loop-alloc : goal.invariant-loop-alloc
invariant-loop-alloc l = UsesSoFar l.uses.items (left l.fn.self) (left l.self)

abbrev pub decreases-loop-alloc : goal.decreases-loop-alloc
decreases-loop-alloc l = length (left l.self)
