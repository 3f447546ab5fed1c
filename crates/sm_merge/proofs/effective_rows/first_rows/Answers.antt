use Rattle.std.proofs.Common.{rules}
use Rattle.std.proofs.lemmas.Fn.{always_returns_same, dedup_same}
use Rattle.std.proofs.lemmas.List.Sorted.{ranks_by}
use Rattle.std.specs.Cmp.Lexicographic.{nat_list_cmp_total}
use Rattle.sm_merge.specs.declared.effective.NamedFolded.{NamedFolded}
use Rattle.sm_merge.proofs.FirstRows.{before, first_rows_are, same}
use Rattle.sm_merge.proofs.effective_rows.first_rows.Goals as goal

pub returns : goal.returns
returns c =
    first_rows_are c.args.rows.items c.sort_by.new.self.items c.dedup_by.new.self.items c.in_ok-sort_by.ensures.permutation
    (c.in_ok-sort_by.ensures.sorted before (ranks_by nat_list_cmp_total (λ (t : NamedFolded). t.name.now))
    (always_returns_same _ _ _ (λ a r f called. search rules)))
    (c.in_ok-sort_by.ensures.stable before (ranks_by nat_list_cmp_total (λ (t : NamedFolded). t.name.now))
    (always_returns_same _ _ _ (λ a r f called. search rules)))
    (dedup_same _ same _ (λ x y b f' x' y' k. search rules) c.sort_by.new.self.items c.dedup_by.new.self.items c.dedup_by.ensures.filtered)
