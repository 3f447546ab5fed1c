use Rattle.std.proofs.Common.{None, [], ap, arith, length, subst, sym, take, ◌<◌, ◌+◌, ◌∙◌}
use Rattle.std.specs.Prelude.{set}
use Rattle.std.proofs.lemmas.List.{length-replicate, length-set, take_all}
use Rattle.sm_passes.specs.Firsts.{number_in}
use Rattle.sm_name_rules.specs.steps.NameTwins.{AreEarlierIn}
use Rattle.sm_name_rules.proofs.NamesNumbered.{earlier_more, earlier_none, row_within}
use Rattle.sm_name_rules.proofs.earlier.earlier_numbers.Goals as goal

pub loop-row-init : goal.loop-row-init
loop-row-init c = record {
  whole = ap length c.in_ok-earlier.ensures ∙ length-replicate c.count.result None ∙ c.count.ensures;
  are = subst (AreEarlierIn (number_in c.args.firsts.now) []) (sym c.in_ok-earlier.ensures)
      (earlier_none (number_in c.args.firsts.now) c.count.result);
}

pub index_mut-requires : goal.index_mut-requires
index_mut-requires c =
    let r = c.row-item.result in
    let low : r.1 < length c.loop-row.earlier.items =
    row_within c.args.graph.now c.args.rows.now c.requires c.loop-row.row-index r c.loop-row-test.true c.row-item.is
    c.loop-row.earlier.items c.loop-row.invariant.whole in
    omega (arith, low, c.loop-row.earlier.ok.0)

pub loop-row-preserved : goal.loop-row-preserved
loop-row-preserved c =
    let r = c.row-item.result in
    record {
      whole = length-set c.loop-row.earlier.items r.1 c.earlier_of.result ∙ c.loop-row.invariant.whole;
      are = subst (λ o. AreEarlierIn (number_in c.args.firsts.now) (take (c.loop-row.row-index + 1) c.args.rows.now)
          (set c.loop-row.earlier.items r.1 o)) (sym c.earlier_of.ensures)
          (earlier_more c.args.graph.now c.args.rows.now c.requires c.loop-row.row-index r c.loop-row-test.true c.row-item.is
          c.loop-row.earlier.items c.loop-row.invariant.whole (number_in c.args.firsts.now) c.loop-row.invariant.are);
    }

pub returns : goal.returns
returns c =
    subst (λ rs. AreEarlierIn (number_in c.args.firsts.now) rs c.loop-row.earlier.items)
    (take_all c.loop-row.row-index c.args.rows.now c.loop-row-test.false) c.loop-row.invariant.are
