use Rattle.std.proofs.Common.{rules, subst, sym}
use Rattle.std.specs.Cmp.Lexicographic.{nat_list_cmp_total}
use Rattle.std.proofs.lemmas.Fn.{always_returns_same, dedup_same}
use Rattle.std.proofs.lemmas.List.Sorted.{ranks_by}
use Rattle.std.specs.Prelude.{◌↔◌}
use Rattle.sm_http_rules.specs.steps.Shortest.{AreApart}
use Rattle.sm_http_rules.specs.steps.WireNames.{BeginsWithOne}
use Rattle.sm_http_rules.proofs.ShortestKept.{before, begins_kept, kept_apart, kept_same}
use Rattle.sm_http_rules.proofs.shortest.shortest.Goals as goal

pub returns-clause-apart : goal.returns-clause-apart
returns-clause-apart c =
    let sorted = c.sort_unstable_by.new.self.items in
    subst AreApart (sym (dedup_same _ begins_kept _ (λ x y b f' x' y' k. search rules) sorted c.dedup_by.new.self.items
    c.dedup_by.ensures.filtered))
    (kept_apart sorted (c.sort_unstable_by.ensures.sorted before (ranks_by nat_list_cmp_total (λ t. t))
    (always_returns_same _ _ _ (λ a r f called. search rules))))

pub returns-clause-same : goal.returns-clause-same
returns-clause-same c text =
    let sorted = c.sort_unstable_by.new.self.items in
    subst (λ ps. BeginsWithOne text ps ↔ BeginsWithOne text c.args.prefixes.items)
    (sym (dedup_same _ begins_kept _ (λ x y b f' x' y' k. search rules) sorted c.dedup_by.new.self.items c.dedup_by.ensures.filtered))
    (kept_same c.args.prefixes.items sorted c.sort_unstable_by.ensures.permutation text)
