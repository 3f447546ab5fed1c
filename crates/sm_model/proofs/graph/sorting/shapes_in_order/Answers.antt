use Rattle.std.proofs.Common.{rules, sym, subst}
use Rattle.std.proofs.lemmas.Fn.{always_returns_same}
use Rattle.std.proofs.lemmas.List.Sorted.{ranks_by}
use Rattle.std.specs.Cmp.Lexicographic.{nat_list_cmp_total}
use Rattle.std.specs.Ordering.{is_lt}
use Rattle.sm_model.specs.Formed.{DifferInNames}
use Rattle.sm_model.specs.GivenView.{shape_given_view}
use Rattle.sm_model.specs.Graphs.{text_cmp}
use Rattle.sm_model.specs.steps.Rising.{Rise}
use Rattle.sm_model.proofs.Sorting.{map_twice, rise_moved}
use Rattle.sm_model.proofs.graph.sorting.shapes_in_order.Goals as goal

pub returns-clause-rise : goal.returns-clause-rise
returns-clause-rise c =
    let moved = c.sort_unstable_by.ensures.permutation in
    subst Rise (sym (map_twice shape_given_view (λ s. s.id) c.sort_unstable_by.new.self.items))
    (rise_moved (λ s. s.id) c.args.shapes.items c.sort_unstable_by.new.self.items moved
    (c.sort_unstable_by.ensures.sorted (λ a b. is_lt (text_cmp a.id b.id)) (ranks_by nat_list_cmp_total (λ s. s.id))
    (always_returns_same _ _ _ (λ a r f called. search rules)))
    (subst DifferInNames (map_twice shape_given_view (λ s. s.id) c.args.shapes.items) c.requires))
