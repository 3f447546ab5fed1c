use Rattle.std.proofs.Common.{take}
use Rattle.sm_service.specs.steps.OperationRows.{PutsStarts}
use Rattle.sm_service.proofs.operations.push_errors.Given as goal

abbrev pub invariant-loop-place : goal.invariant-loop-place
invariant-loop-place l = PutsStarts l.shapes (take l.place l.errors) l.fn.starts.items l.starts.items
