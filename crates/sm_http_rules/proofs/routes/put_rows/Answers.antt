use Rattle.std.proofs.Common.{arith, drop, get_or, length, subst, sym, take, ◌-◌, ◌↔◌, ◌≡◌, ℕ}
use Rattle.std.specs.List.{Contains}
use Rattle.std.proofs.lemmas.List.{take_more, take_rest}
use Rattle.std.proofs.lemmas.List.Elements.{Contains-get_or}
use Rattle.sm_model.specs.GraphView.{IsShapeNumber}
use Rattle.sm_rules.specs.RuleEvents.{Puts}
use Rattle.sm_passes.proofs.SharedClosures.{of_first}
use Rattle.sm_http_rules.specs.steps.SameRoutes.{ToldOfRows, first_at}
use Rattle.sm_http_rules.proofs.FirstsInOrder.{run_begun, run_rows}
use Rattle.sm_http_rules.proofs.PairsTold.{no_pairs, pairs_next}
use Rattle.sm_http_rules.proofs.routes.put_rows.Goals as goal

pub loop-place-init : goal.loop-place-init
loop-place-init c = record {
  within = omega arith;
  run = run_begun c.args.rows.now;
  told = no_pairs c.args.graph.now c.args.events.now.items;
}

pub put_with-requires-clause-others : goal.put_with-requires-clause-others
put_with-requires-clause-others c r there =
    let rows = c.args.rows.now in
    let place = c.loop-place.place in
    let begin = c.run_begin-begin.result in
    let here = (run_rows rows begin place c.run_begin-begin.ensures.run c.run_begin-begin.ensures.within c.loop-place-test.true r).0
    (subst (λ rs. Contains rs r) (take_rest (take place rows) begin) there) in
    of_first (λ s. IsShapeNumber c.args.graph.now s.1) place rows c.requires.numbers r here.0

pub put_with-requires-clause-number : goal.put_with-requires-clause-number
put_with-requires-clause-number c =
    c.requires.numbers _ (Contains-get_or c.args.rows.now c.loop-place.place (0, 0) c.loop-place-test.true)

pub loop-place-preserved : goal.loop-place-preserved
loop-place-preserved c =
    let g = c.args.graph.now in
    let rows = c.args.rows.now in
    let at = c.loop-place in
    let front = take at.place rows in
    let begin = c.run_begin-begin.result in
    let run = take (length front - begin) (drop begin front) in
    record {
      within = omega (arith, c.loop-place-test.true);
      run = c.run_begin-begin.ensures.run;
      told = subst (λ rs. Puts (ToldOfRows g rs) c.args.events.now.items c.put_with.new.events.items)
          (sym (take_more rows at.place (0, 0) c.loop-place-test.true))
          (pairs_next g front (get_or rows at.place (0, 0)) run
          (subst (λ rs. (r : ℕ × ℕ) → Contains rs r ↔ (Contains front r × (r.0 ≡ first_at rows at.place))) (sym (take_rest front begin))
          (run_rows rows begin at.place c.run_begin-begin.ensures.run c.run_begin-begin.ensures.within c.loop-place-test.true))
          c.args.events.now.items at.events.items c.put_with.new.events.items at.invariant.told c.in_ok-put_with.ensures);
    }
