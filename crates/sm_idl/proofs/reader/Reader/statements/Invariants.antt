use Rattle.std.proofs.Common.{length}
use Rattle.sm_model.specs.SaidView.{statements_view}
use Rattle.sm_idl.specs.steps.HomeView.{home_of_file}
use Rattle.sm_idl.specs.steps.PartSteps.{suffixes_view}
use Rattle.sm_idl.specs.steps.ReaderView.{left}
use Rattle.sm_idl.proofs.ReadShapes.{ItemsSoFar}
use Rattle.sm_idl.proofs.reader.Reader.statements.Given as goal

abbrev pub invariant-loop-alloc : goal.invariant-loop-alloc
invariant-loop-alloc l = ItemsSoFar (home_of_file l.home) (suffixes_view l.endings) (statements_view l.fn.statements.items)
    (statements_view l.statements.items) (left l.fn.self) (left l.self)

abbrev pub decreases-loop-alloc : goal.decreases-loop-alloc
decreases-loop-alloc l = length (left l.self)
