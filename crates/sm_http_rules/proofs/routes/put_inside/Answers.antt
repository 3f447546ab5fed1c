use Rattle.std.proofs.Common.{rules, subst, sym}
use Rattle.std.proofs.lemmas.Cmp.{nat_cmp_total}
use Rattle.std.proofs.lemmas.Fn.{always_returns_same}
use Rattle.std.proofs.lemmas.List.Sorted.{ranks_by}
use Rattle.std.specs.Ordering.{is_lt, nat_cmp}
use Rattle.sm_http_rules.specs.steps.SameRoutes.{AreByFirsts, AreUnder}
use Rattle.sm_http_rules.proofs.FirstsInOrder.{rows_moved}
use Rattle.sm_http_rules.proofs.PairsTold.{numbers_told}
use Rattle.sm_http_rules.proofs.RoutesTold.{number_there}
use Rattle.sm_http_rules.proofs.routes.put_inside.Goals as goal

pub put_rows-requires-clause-order : goal.put_rows-requires-clause-order
put_rows-requires-clause-order c =
    subst AreByFirsts (sym c.as_slice.ensures.value)
    (c.sort_unstable_by.ensures.sorted (λ a b. is_lt (nat_cmp a.0 b.0)) (ranks_by nat_cmp_total (λ r. r.0))
    (always_returns_same _ _ _ (λ a r f called. search rules)))

pub put_rows-requires-clause-numbers : goal.put_rows-requires-clause-numbers
put_rows-requires-clause-numbers c r there =
    let firsts = c.args.firsts.now in
    let are = subst (AreUnder firsts c.args.numbers.now) (sym c.as_slice.ensures.value)
    (rows_moved firsts c.args.numbers.now c.in_ok-rows.rows.items c.sort_unstable_by.new.self.items
    c.sort_unstable_by.ensures.permutation c.in_ok-rows.ensures) in
    number_there c.args.graph.now firsts c.requires r.1 r.0 ((are r).0 there).1

pub returns : goal.returns
returns c =
    let firsts = c.args.firsts.now in
    numbers_told c.args.graph.now firsts c.args.numbers.now c.as_slice.result.now
    (subst (AreUnder firsts c.args.numbers.now) (sym c.as_slice.ensures.value)
    (rows_moved firsts c.args.numbers.now c.in_ok-rows.rows.items c.sort_unstable_by.new.self.items
    c.sort_unstable_by.ensures.permutation c.in_ok-rows.ensures)) c.args.events.now.items c.put_rows.new.events.items
    c.in_ok-put_rows.ensures
