use Rattle.std.specs.Vec.Iter.{into_iter_items}
use Rattle.sm_tree.specs.View.{node_of, nodes_view}
use Rattle.sm_merge.specs.steps.Folding.{AreNodes, IsFoldOf, IsRunning}
use Rattle.sm_merge.proofs.value.fold_values.Given as goal

abbrev pub invariant-loop-next : goal.invariant-loop-next
invariant-loop-next l = record {
  running : IsRunning l.folded;
  nodes : AreNodes (nodes_view (into_iter_items l.next-iterator));
  folds : IsFoldOf (node_of l.fn.first) (nodes_view (into_iter_items l.initial.next-iterator)) (node_of l.folded.value)
      (nodes_view (into_iter_items l.next-iterator)) l.folded.conflict;
}
