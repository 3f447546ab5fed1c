use Rattle.std.proofs.Common.{arith, length, subst, ◌∙◌}
use Rattle.std.specs.Map.{values_of}
use Rattle.std.proofs.lemmas.Grind.{common_steps}
use Rattle.std.proofs.lemmas.List.{length-set, take_all}
use Rattle.sm_http_rules.specs.steps.SameRoutes.{IsPutUnder}
use Rattle.sm_http_rules.proofs.SameRouteRows.{row_within, under_row}
use Rattle.sm_http_rules.proofs.same_routes.put_under.Goals as goal

pub index_mut-requires : goal.index_mut-requires
index_mut-requires c =
    let within = row_within c.args.rows.now (length c.args.firsts.now.items) c.requires c.loop-row.row-index c.row-item.result
    c.loop-row-test.true c.row-item.is (length c.loop-row.firsts.items) c.loop-row.invariant.whole in
    grind (arith, common_steps, within)

pub loop-row-preserved : goal.loop-row-preserved
loop-row-preserved c =
    let at = c.loop-row in
    let within = row_within c.args.rows.now (length c.args.firsts.now.items) c.requires at.row-index c.row-item.result c.loop-row-test.true
    c.row-item.is (length at.firsts.items) at.invariant.whole in
    record {
      whole = length-set at.firsts.items _ _ ∙ at.invariant.whole;
      put = under_row c.args.first c.args.rows.now at.row-index c.row-item.result c.loop-row-test.true c.row-item.is
          c.args.firsts.now.items at.firsts.items at.invariant.put within;
    }

pub returns-clause-put : goal.returns-clause-put
returns-clause-put c =
    subst (λ rs. IsPutUnder c.args.first (values_of rs) c.args.firsts.now.items c.loop-row.firsts.items)
    (take_all c.loop-row.row-index c.args.rows.now c.loop-row-test.false) c.loop-row.invariant.put
