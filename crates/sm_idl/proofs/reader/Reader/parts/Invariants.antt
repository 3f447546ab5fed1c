use Rattle.std.proofs.Common.{List, length}
use Rattle.sm_idl.specs.Bodies.{PartSaid, part_names}
use Rattle.sm_idl.specs.steps.HomeView.{home_of_file}
use Rattle.sm_idl.specs.steps.Names.{Remembers}
use Rattle.sm_idl.specs.steps.PartSteps.{suffixes_view}
use Rattle.sm_idl.specs.steps.ReaderView.{left}
use Rattle.sm_idl.proofs.ReadParts.{PartsSoFar}
use Rattle.sm_idl.proofs.reader.Reader.parts.Given as goal

abbrev pub invariant-loop-alloc : goal.invariant-loop-alloc
invariant-loop-alloc l = (ps : List PartSaid)
    × PartsSoFar (home_of_file l.home) (suffixes_view l.endings) l.operation l.pairs.items l.defined.items ps (left l.fn.self) (left l.self)
    × Remembers l.seen (part_names ps)

abbrev pub decreases-loop-alloc : goal.decreases-loop-alloc
decreases-loop-alloc l = length (left l.self)
