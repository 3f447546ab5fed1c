use Rattle.std.proofs.Common.{arith, length, subst, ◌≡◌}
use Rattle.sm_model.specs.GraphView.{entries_of}
use Rattle.sm_http_rules.specs.steps.Routes.{AreRoutesBelow}
use Rattle.sm_http_rules.proofs.SameRouteRows.{routes_next}
use Rattle.sm_http_rules.proofs.route_keys.route_rows.Goals as goal

pub loop-number-preserved : goal.loop-number-preserved
loop-number-preserved c =
    let at = c.loop-number in
    record {
      within = omega (arith, c.loop-number-test.true, c.count-number-end.ensures);
      rows = routes_next c.args.graph.now at.number at.rows.items c.put_key.new.rows.items at.invariant.rows c.in_ok-put_key.ensures;
    }

pub returns : goal.returns
returns c =
    let at = c.loop-number in
    let all : at.number ≡ length (entries_of c.args.graph.now) =
    omega (arith, c.loop-number-test.false, c.count-number-end.ensures, at.invariant.within) in
    subst (λ n. AreRoutesBelow c.args.graph.now n at.rows.items) all at.invariant.rows
