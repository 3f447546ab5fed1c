use Rattle.std.proofs.Common.{length, map}
use Rattle.sm_idl.specs.steps.ReaderView.{left}
use Rattle.sm_idl.specs.steps.HomeView.{home_of_file}
use Rattle.sm_idl.proofs.ViewedRows.{CameBy}
use Rattle.sm_idl.specs.Nodes.{pair_names}
use Rattle.sm_idl.specs.steps.Names.{Remembers}
use Rattle.sm_idl.specs.steps.Classes.{NoMark}
use Rattle.sm_idl.specs.steps.ReaderView.{raw_pair}
use Rattle.sm_model.specs.Properties.{property_forms}
use Rattle.sm_idl.specs.Bodies.{property}
use Rattle.sm_idl.proofs.reader.Reader.property_pairs.Given as goal

abbrev pub invariant-loop-alloc : goal.invariant-loop-alloc
invariant-loop-alloc l = record {
  row : CameBy NoMark (property (home_of_file l.home) (property_forms l.kind)) raw_pair l.pairs.items (left l.fn.self) (left l.self);
  seen : Remembers l.seen (pair_names (map raw_pair l.pairs.items));
}

abbrev pub decreases-loop-alloc : goal.decreases-loop-alloc
decreases-loop-alloc l = length (left l.self)
