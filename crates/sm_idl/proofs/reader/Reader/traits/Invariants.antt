use Rattle.std.proofs.Common.{length}
use Rattle.sm_idl.specs.steps.HomeView.{home_of_file}
use Rattle.sm_idl.specs.steps.ReaderView.{left}
use Rattle.sm_idl.proofs.TraitRows.{GrownBy}
use Rattle.sm_idl.proofs.reader.Reader.traits.Given as goal

abbrev pub invariant-loop-alloc : goal.invariant-loop-alloc
invariant-loop-alloc l = GrownBy (home_of_file l.home) l.fn.traits.items l.traits.items (left l.fn.self) (left l.self)

abbrev pub decreases-loop-alloc : goal.decreases-loop-alloc
decreases-loop-alloc l = length (left l.self)
