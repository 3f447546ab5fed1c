use Rattle.std.proofs.Common.{rules}
use Rattle.std.proofs.lemmas.Fn.{always_returns_same}
use Rattle.std.proofs.lemmas.List.Sorted.{ranks_by}
use Rattle.std.specs.Cmp.Lexicographic.{nat_list_cmp_total}
use Rattle.std.specs.Ordering.{is_lt}
use Rattle.sm_model.specs.Graphs.{text_cmp}
use Rattle.sm_groups.proofs.GroupsMade.{still_under}
use Rattle.sm_groups.proofs.groups.in_order.Goals as goal

pub returns-clause-sorted : goal.returns-clause-sorted
returns-clause-sorted g c =
    c.in_ok-sort_by.ensures.sorted (λ a b. is_lt (text_cmp a.0 b.0)) (ranks_by nat_list_cmp_total (λ t. t.0))
    (always_returns_same _ _ _ (λ a r f called. search rules))

pub returns-clause-stable : goal.returns-clause-stable
returns-clause-stable g c = λ key.
    still_under c.args.rows.items c.sort_by.new.self.items c.in_ok-sort_by.ensures.permutation
    (c.in_ok-sort_by.ensures.stable (λ a b. is_lt (text_cmp a.0 b.0)) (ranks_by nat_list_cmp_total (λ t. t.0))
    (always_returns_same _ _ _ (λ a r f called. search rules))) key
