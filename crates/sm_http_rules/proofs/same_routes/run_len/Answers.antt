use Rattle.std.proofs.Common.{arith, length, subst, sym, take, ◌≡◌, ◌∙◌}
use Rattle.std.specs.List.{All}
use Rattle.sm_model.proofs.Worklist.{apart}
use Rattle.sm_http_rules.proofs.SameRouteRows.{run_ended, run_whole}
use Rattle.sm_http_rules.proofs.same_routes.run_len.Goals as goal

pub returns-then-not-is_text_of-clause-run : goal.returns-then-not-is_text_of-clause-run
returns-then-not-is_text_of-clause-run c =
    run_ended c.args.rows.now c.requires.order c.index-rows-0.result c.index-rows-0.is c.loop-place.place c.index-rows-place.result
    c.loop-place-test.true c.index-rows-place.is c.loop-place.invariant.same
    (λ same. apart (sym c.if-not-is_text_of.true ∙ c.is_text_of.ensures.1 same))

pub returns-clause-run : goal.returns-clause-run
returns-clause-run c =
    let rows = c.args.rows.now in
    let at = c.loop-place.place in
    let all : at ≡ length rows = omega (arith, c.loop-place-test.false, c.loop-place.invariant.within) in
    run_whole rows c.requires.order c.index-rows-0.result c.index-rows-0.is
    (subst (λ n. All (λ r. r.0 ≡ c.index-rows-0.result.0) (take n rows)) all c.loop-place.invariant.same)
