use Rattle.std.proofs.Common.{length, map}
use Rattle.sm_idl.specs.Nodes.{pair_names}
use Rattle.sm_idl.specs.Idl.{metadata}
use Rattle.sm_idl.specs.steps.FileClasses.{Metadata}
use Rattle.sm_idl.specs.steps.Names.{Remembers}
use Rattle.sm_idl.specs.steps.ReaderView.{left, raw_pair}
use Rattle.sm_idl.proofs.ViewedRows.{CameBy}
use Rattle.sm_idl.proofs.reader.Reader.all_metadata.Given as goal

abbrev pub invariant-loop-alloc : goal.invariant-loop-alloc
invariant-loop-alloc g l = record {
  row : CameBy Metadata (metadata (g.W.Words.home l.words)) raw_pair l.pairs.items (left l.fn.self) (left l.self);
  seen : Remembers l.seen (pair_names (map raw_pair l.pairs.items));
}

abbrev pub decreases-loop-alloc : goal.decreases-loop-alloc
decreases-loop-alloc g l = length (left l.self)
