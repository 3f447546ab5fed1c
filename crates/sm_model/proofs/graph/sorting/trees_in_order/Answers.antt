use Rattle.std.proofs.Common.{rules}
use Rattle.std.proofs.lemmas.Fn.{always_returns_same}
use Rattle.std.proofs.lemmas.List.Sorted.{ranks_by}
use Rattle.std.specs.Cmp.Lexicographic.{nat_list_cmp_total}
use Rattle.std.specs.Ordering.{is_lt}
use Rattle.sm_tree.specs.View.{node_of}
use Rattle.sm_model.specs.Graphs.{text_cmp}
use Rattle.sm_model.proofs.Sorting.{trees_sorted, trees_kept}
use Rattle.sm_model.proofs.graph.sorting.trees_in_order.Goals as goal

pub returns-clause-sorted : goal.returns-clause-sorted
returns-clause-sorted c =
    trees_sorted node_of c.args.trees.items c.sort_unstable_by.new.self.items c.sort_unstable_by.ensures.permutation
    (c.sort_unstable_by.ensures.sorted (λ a b. is_lt (text_cmp a.0 b.0)) (ranks_by nat_list_cmp_total (λ t. t.0))
    (always_returns_same _ _ _ (λ a r f called. search rules))) c.requires

pub returns-clause-same : goal.returns-clause-same
returns-clause-same c =
    trees_kept node_of c.args.trees.items c.sort_unstable_by.new.self.items c.sort_unstable_by.ensures.permutation
    (c.sort_unstable_by.ensures.sorted (λ a b. is_lt (text_cmp a.0 b.0)) (ranks_by nat_list_cmp_total (λ t. t.0))
    (always_returns_same _ _ _ (λ a r f called. search rules))) c.requires
