use Rattle.std.proofs.Common.{None, ap, get_or, length, rules, subst, sym, ◌<◌, ◌≡◌, ◌∙◌}
use Rattle.std.specs.Map.{values_of}
use Rattle.std.proofs.lemmas.Fn.{always_returns_same}
use Rattle.std.proofs.lemmas.List.{length-replicate}
use Rattle.std.proofs.lemmas.List.Sorted.{ranks_by}
use Rattle.std.specs.Cmp.Lexicographic.{nat_list_cmp_total}
use Rattle.std.specs.List.{Contains}
use Rattle.std.specs.Ordering.{is_lt}
use Rattle.sm_model.specs.Graphs.{text_cmp}
use Rattle.sm_http_rules.specs.steps.SameRoutes.{AreInOrder, AreTogether, HasRow, HaveOneText}
use Rattle.sm_http_rules.proofs.SameRouteRows.{all_one, routes_of_one, routes_together, routes_within}
use Rattle.sm_http_rules.proofs.same_routes.same_routes.Goals as goal

pub gathered-requires-clause-order : goal.gathered-requires-clause-order
gathered-requires-clause-order c =
    subst AreInOrder (sym c.as_slice.ensures.value)
    (c.sort_unstable_by.ensures.sorted (λ a b. is_lt (text_cmp a.0 b.0)) (ranks_by nat_list_cmp_total (λ r. r.0))
    (always_returns_same _ _ _ (λ a r f called. search rules)))

pub gathered-requires-clause-texts : goal.gathered-requires-clause-texts
gathered-requires-clause-texts c =
    subst HaveOneText (sym c.as_slice.ensures.value)
    (routes_of_one c.args.graph.now c.in_ok-rows.rows.items c.sort_unstable_by.new.self.items c.sort_unstable_by.ensures.permutation
    c.in_ok-rows.ensures)

pub gathered-requires-clause-within : goal.gathered-requires-clause-within
gathered-requires-clause-within c k there =
    let all : length c.in_ok-firsts.firsts.items ≡ c.count.result =
    ap length c.in_ok-firsts.ensures ∙ length-replicate c.count.result None in
    subst (λ n. k < n) (sym (all ∙ c.count.ensures))
    (routes_within c.args.graph.now c.in_ok-rows.rows.items c.sort_unstable_by.new.self.items c.sort_unstable_by.ensures.permutation
    c.in_ok-rows.ensures k (subst (λ rs. Contains (values_of rs) k) c.as_slice.ensures.value there))

pub gathered-requires-clause-none : goal.gathered-requires-clause-none
gathered-requires-clause-none c k =
    ap (λ fs. get_or fs k None) c.in_ok-firsts.ensures ∙ all_one None c.count.result k

pub returns : goal.returns
returns c =
    routes_together c.args.graph.now c.in_ok-rows.rows.items c.sort_unstable_by.new.self.items c.sort_unstable_by.ensures.permutation
    c.in_ok-rows.ensures c.gathered.result.items
    (subst (λ rs. AreTogether (HasRow rs) c.gathered.result.items) c.as_slice.ensures.value c.gathered.ensures)
