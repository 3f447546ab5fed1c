use Rattle.std.proofs.Common.{ap, subst}
use Rattle.std.specs.Vec.Iter.{into_iter_items}
use Rattle.sm_tree.specs.View.{node_of, nodes_view}
use Rattle.sm_merge.specs.steps.Folding.{AreNodes, IsFoldOf}
use Rattle.sm_merge.proofs.Folds.{fold_step}
use Rattle.sm_merge.proofs.value.fold_values.Goals as goal

pub loop-next-preserved : goal.loop-next-preserved
loop-next-preserved c =
    let first = node_of c.args.first in
    let all = nodes_view (into_iter_items c.into_iter-next-iterator.result) in
    let before = c.loop-next.folded in
    let after = c.in_ok-folded.folded in
    let rest = nodes_view (into_iter_items c.next.new.self) in
    let parts = ap nodes_view c.in-Some.ensures.steps.0 in
    record {
      running = c.in_ok-folded.ensures.running;
      nodes = (subst AreNodes parts c.loop-next.invariant.nodes).1;
      folds =
          fold_step first all (node_of before.value) (node_of c.in-Some.next) (node_of after.value) rest before.conflict after.conflict
          (subst (λ ns. IsFoldOf first all (node_of before.value) ns before.conflict) parts c.loop-next.invariant.folds)
          c.in_ok-folded.ensures.came c.in_ok-folded.ensures.told;
    }
