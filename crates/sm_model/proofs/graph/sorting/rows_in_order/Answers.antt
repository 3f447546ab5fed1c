use Rattle.std.proofs.Common.{rules}
use Rattle.std.proofs.lemmas.Fn.{always_returns_same}
use Rattle.std.proofs.lemmas.List.Sorted.{ranks_by}
use Rattle.std.specs.Cmp.Lexicographic.{nat_list_cmp_total}
use Rattle.std.specs.Ordering.{is_lt}
use Rattle.sm_model.specs.Graphs.{text_cmp}
use Rattle.sm_model.specs.GraphRows.{id_of_row}
use Rattle.sm_model.proofs.Sorting.{rise_moved}
use Rattle.sm_model.proofs.graph.sorting.rows_in_order.Goals as goal

pub returns-clause-rise : goal.returns-clause-rise
returns-clause-rise c =
    rise_moved id_of_row c.args.rows.items c.sort_unstable_by.new.self.items c.sort_unstable_by.ensures.permutation
    (c.sort_unstable_by.ensures.sorted (λ a b. is_lt (text_cmp a.id b.id)) (ranks_by nat_list_cmp_total id_of_row)
    (always_returns_same _ _ _ (λ a r f called. search rules))) c.requires
