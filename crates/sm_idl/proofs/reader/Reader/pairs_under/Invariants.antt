use Rattle.std.proofs.Common.{length, map}
use Rattle.sm_idl.specs.steps.ReaderView.{left}
use Rattle.sm_idl.specs.steps.HomeView.{home_of_file}
use Rattle.sm_idl.proofs.ViewedRows.{CameBy}
use Rattle.sm_idl.specs.Nodes.{pair_names}
use Rattle.sm_idl.specs.steps.Names.{Remembers}
use Rattle.sm_idl.specs.steps.Classes.{NoMark}
use Rattle.sm_idl.specs.steps.FieldSteps.{under}
use Rattle.sm_idl.specs.steps.ReaderView.{raw_pair}
use Rattle.sm_idl.proofs.reader.Reader.pairs_under.Given as goal

abbrev pub invariant-loop-alloc : goal.invariant-loop-alloc
invariant-loop-alloc l = record {
  row : CameBy NoMark (under (home_of_file l.home) l.renames) raw_pair l.pairs.items (left l.fn.self) (left l.self);
  seen : Remembers l.seen (pair_names (map raw_pair l.pairs.items));
}

abbrev pub decreases-loop-alloc : goal.decreases-loop-alloc
decreases-loop-alloc l = length (left l.self)
