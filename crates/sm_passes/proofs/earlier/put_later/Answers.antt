use Rattle.std.proofs.Common.{◌≡◌, length, subst, sym, ◌∙◌, arith}
use Rattle.std.specs.List.{Contains}
use Rattle.std.proofs.lemmas.List.Elements.{Contains-get_or}
use Rattle.sm_model.specs.GraphView.{IsShapeNumber}
use Rattle.sm_rules.specs.RuleEvents.{Puts}
use Rattle.sm_passes.specs.Earlier.{ToldAt}
use Rattle.sm_passes.specs.Firsts.{number_in}
use Rattle.sm_passes.specs.Putting.{Below}
use Rattle.sm_passes.proofs.EarlierRows.{found_number, seen_next, told_here}
use Rattle.sm_passes.proofs.EventsPut.{puts_next}
use Rattle.sm_passes.proofs.earlier.put_later.Goals as goal

pub put_row-requires-clause-number : goal.put_row-requires-clause-number
put_row-requires-clause-number g c =
    let row = c.row-item.result in
    c.requires.numbers row
    (subst (Contains c.args.rows.now) (sym c.row-item.is) (Contains-get_or c.args.rows.now c.loop-row.row-index row c.loop-row-test.true))

pub put_row-requires-clause-firsts : goal.put_row-requires-clause-firsts
put_row-requires-clause-firsts g c key j is =
    found_number (IsShapeNumber c.args.graph.now) c.args.rows.now c.loop-row.row-index key j c.requires.numbers
    (sym (c.loop-row.invariant.seen key) ∙ is)

pub loop-row-preserved : goal.loop-row-preserved
loop-row-preserved g c =
    let T = g.F.OfFirst.tells c.args.rule.now c.args.graph.now in
    record {
      seen = seen_next (number_in c.loop-row.seen) (number_in c.put_row.new.seen) c.args.rows.now c.loop-row.row-index c.row-item.result
          c.loop-row-test.true c.row-item.is c.loop-row.invariant.seen c.in_ok-put_row.ensures.seen;
      told = puts_next (ToldAt T c.args.rows.now) c.loop-row.row-index c.args.events.now.items c.loop-row.events.items
          c.put_row.new.events.items c.loop-row.invariant.told
          (told_here T (number_in c.loop-row.seen) c.args.rows.now c.loop-row.row-index c.row-item.result c.loop-row-test.true c.row-item.is
          c.loop-row.invariant.seen c.loop-row.events.items c.put_row.new.events.items c.in_ok-put_row.ensures.told);
    }

pub returns : goal.returns
returns g c =
    let all : c.loop-row.row-index ≡ length c.args.rows.now = omega (arith, c.loop-row-test.false, c.loop-row.auto.row-index-end) in
    subst (λ n. Puts (Below (ToldAt (g.F.OfFirst.tells c.args.rule.now c.args.graph.now) c.args.rows.now) n) c.args.events.now.items
    c.loop-row.events.items) all c.loop-row.invariant.told
