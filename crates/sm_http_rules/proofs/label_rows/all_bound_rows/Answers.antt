use Rattle.std.proofs.Common.{◌≡◌, ◌+◌, [], arith, length, subst, sym}
use Rattle.sm_model.specs.GraphView.{entries_of}
use Rattle.sm_http_rules.specs.steps.Labels.{AreBoundOf, AreEach}
use Rattle.sm_http_rules.proofs.EachNumber.{each_more, each_none}
use Rattle.sm_http_rules.proofs.label_rows.all_bound_rows.Goals as goal

pub loop-number-init : goal.loop-number-init
loop-number-init c =
    let g = c.args.graph.now in
    record {
      within = omega arith;
      rows = subst (AreEach (AreBoundOf g) [] 0) (sym c.in_ok-all.ensures.items) (each_none (AreBoundOf g) []);
    }

pub loop-number-preserved : goal.loop-number-preserved
loop-number-preserved c =
    let g = c.args.graph.now in
    let at = c.loop-number in
    record {
      within = omega (arith, c.loop-number-test.true, c.count-number-end.ensures);
      rows = subst (AreEach (AreBoundOf g) [] (at.number + 1)) (sym c.in_ok-push.ensures.items)
          (each_more (AreBoundOf g) [] at.number at.all.items c.in_ok-rows.rows.items at.invariant.rows c.in_ok-rows.ensures);
    }

pub returns : goal.returns
returns c =
    let g = c.args.graph.now in
    let whole : c.loop-number.number ≡ length (entries_of g) =
    omega (arith, c.loop-number-test.false, c.count-number-end.ensures, c.loop-number.invariant.within) in
    subst (λ n. AreEach (AreBoundOf g) [] n c.loop-number.all.items) whole c.loop-number.invariant.rows
