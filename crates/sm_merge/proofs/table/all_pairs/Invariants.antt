use Rattle.std.proofs.Common.{◌≡◌, ◌++◌}
use Rattle.std.specs.Vec.Iter.{into_iter_items}
use Rattle.sm_tree.specs.View.{members_view}
use Rattle.sm_merge.specs.steps.Tables.{all_given, pairs_views}
use Rattle.sm_merge.proofs.table.all_pairs.Given as goal

abbrev pub invariant-loop-pairs : goal.invariant-loop-pairs
invariant-loop-pairs l = members_view l.all.items ++ all_given (pairs_views (into_iter_items l.pairs-iterator))
    ≡ members_view l.initial.all.items ++ all_given (pairs_views (into_iter_items l.initial.pairs-iterator))
