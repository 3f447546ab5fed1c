use Rattle.std.proofs.Common.{◌+◌, ◌*◌, [], length}
use Rattle.sm_model.specs.RawView.{raws_view, raw_members_view}
use Rattle.sm_idl.specs.Nodes.{pair_names, pair_of, node}
use Rattle.sm_idl.specs.steps.Classes.{Either, NoMark, NodeStart}
use Rattle.sm_idl.specs.steps.Names.{Remembers}
use Rattle.sm_idl.specs.steps.ReaderView.{left, NoToken}
use Rattle.sm_idl.proofs.Rows.{IsRow}
use Rattle.sm_idl.proofs.reader.Reader.+node.Given as goal

-- each level inside has one less; a row stands above its entries, and a bracket above its row
abbrev pub decreases-node : goal.decreases-node
decreases-node g l = 4 * l.levels

abbrev pub decreases-pair : goal.decreases-pair
decreases-pair g l = 4 * l.levels + 1

abbrev pub decreases-pairs : goal.decreases-pairs
decreases-pairs g l = 4 * l.levels + 2

abbrev pub decreases-items : goal.decreases-items
decreases-items g l = 4 * l.levels + 2

abbrev pub decreases-object : goal.decreases-object
decreases-object g l = 4 * l.levels + 3

abbrev pub decreases-list : goal.decreases-list
decreases-list g l = 4 * l.levels + 3

abbrev pub decreases-pairs-loop-alloc : goal.decreases-pairs-loop-alloc
decreases-pairs-loop-alloc g l = length (left l.self)

abbrev pub decreases-items-loop-alloc : goal.decreases-items-loop-alloc
decreases-items-loop-alloc g l = length (left l.self)

abbrev pub invariant-pairs-loop-alloc : goal.invariant-pairs-loop-alloc
invariant-pairs-loop-alloc g l = record {
  row : IsRow (Either NoMark NoToken) (pair_of (node (g.W.Words.home l.words) l.levels)) [] (raw_members_view l.pairs.items)
      (left l.fn.self) (left l.self);
  seen : Remembers l.seen (pair_names (raw_members_view l.pairs.items));
}

abbrev pub invariant-items-loop-alloc : goal.invariant-items-loop-alloc
invariant-items-loop-alloc g l =
    IsRow (Either NodeStart NoToken) (λ _. node (g.W.Words.home l.words) l.levels) [] (raws_view l.items.items) (left l.fn.self)
    (left l.self)
