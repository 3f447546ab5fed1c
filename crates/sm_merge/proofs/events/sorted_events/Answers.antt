use Rattle.std.proofs.Common.{◌∙◌, rules}
use Rattle.std.proofs.lemmas.Fn.{always_returns_same, dedup_same}
use Rattle.std.proofs.lemmas.List.Sorted.{ranks_by}
use Rattle.sm_model.specs.EventView.{event_view}
use Rattle.sm_merge.proofs.EventsSorted.{before, kept_events, ordered, same, same_events}
use Rattle.sm_merge.proofs.OneList.{event_order}
use Rattle.sm_merge.proofs.events.sorted_events.Goals as goal

pub returns-clause-order : goal.returns-clause-order
returns-clause-order c =
    ordered c.sort_unstable_by.new.self.items c.new.result
    (c.sort_unstable_by.ensures.sorted before (ranks_by event_order event_view) (always_returns_same _ _ _ (λ a r f called. search rules)))
    (c.new.ensures
    ∙ dedup_same _ same _ (λ x y b f' x' y' k. search rules) c.sort_unstable_by.new.self.items c.dedup_by.new.self.items
    c.dedup_by.ensures.filtered)

pub returns-clause-same : goal.returns-clause-same
returns-clause-same c =
    same_events c.args.events.items c.sort_unstable_by.new.self.items c.new.result c.sort_unstable_by.ensures.permutation
    (c.new.ensures
    ∙ dedup_same _ same _ (λ x y b f' x' y' k. search rules) c.sort_unstable_by.new.self.items c.dedup_by.new.self.items
    c.dedup_by.ensures.filtered)

pub returns-clause-kept : goal.returns-clause-kept
returns-clause-kept c =
    kept_events c.args.events.items c.sort_unstable_by.new.self.items c.new.result c.sort_unstable_by.ensures.permutation
    (c.new.ensures
    ∙ dedup_same _ same _ (λ x y b f' x' y' k. search rules) c.sort_unstable_by.new.self.items c.dedup_by.new.self.items
    c.dedup_by.ensures.filtered)
