use Rattle.std.proofs.Common.{get_or, subst, sym, take}
use Rattle.std.proofs.lemmas.List.{take_all, take_more}
use Rattle.sm_http_rules.specs.steps.SameRoutes.{AreUnder}
use Rattle.sm_http_rules.proofs.FirstsInOrder.{rows_next}
use Rattle.sm_http_rules.proofs.routes.rows_under.Goals as goal

pub loop-number-preserved : goal.loop-number-preserved
loop-number-preserved c =
    let ks = c.args.numbers.now in
    let i = c.loop-number.number-index in
    subst (λ ns. AreUnder c.args.firsts.now ns c.push_row.new.rows.items) (sym (take_more ks i 0 c.loop-number-test.true))
    (rows_next c.args.firsts.now (take i ks) (get_or ks i 0) c.loop-number.rows.items c.push_row.new.rows.items c.loop-number.invariant
    c.in_ok-push_row.ensures)

pub returns : goal.returns
returns c =
    subst (λ ns. AreUnder c.args.firsts.now ns c.loop-number.rows.items)
    (take_all c.loop-number.number-index c.args.numbers.now c.loop-number-test.false) c.loop-number.invariant
