use Rattle.std.proofs.Common.{length}
use Rattle.sm_idl.specs.steps.ReaderView.{left}
use Rattle.sm_idl.specs.steps.HomeView.{home_of_file}
use Rattle.sm_idl.proofs.ViewedRows.{CameBy}
use Rattle.sm_model.specs.RawView.{raw_view}
use Rattle.sm_idl.specs.Bodies.{reference}
use Rattle.sm_idl.specs.steps.Classes.{AnyWord}
use Rattle.sm_idl.proofs.reader.Reader.reference_items.Given as goal

abbrev pub invariant-loop-alloc : goal.invariant-loop-alloc
invariant-loop-alloc l = CameBy AnyWord (λ _. reference (home_of_file l.home)) raw_view l.items.items (left l.fn.self) (left l.self)

abbrev pub decreases-loop-alloc : goal.decreases-loop-alloc
decreases-loop-alloc l = length (left l.self)
