use Rattle.std.proofs.Common.{◌≡◌, ◌⊎◌, ◌↔◌, ◌+◌, ℕ, IfOk, ap, arith, false, get_or, length, map, subst, sym, true, ◌∙◌}
use Rattle.std.proofs.lemmas.List.{length-replicate}
use Rattle.sm_model.specs.GraphView.{maps_of}
use Rattle.sm_model.specs.Reaching.{AreMarks, IsMarked}
use Rattle.sm_select.specs.Picks.{Goes, PickedByOne, Picks}
use Rattle.sm_select.specs.Selectors.{alternatives_of, steps_of}
use Rattle.sm_select.specs.View.{selector_view, selector_views, selectors_view, step_view, step_views}
use Rattle.sm_select.specs.steps.Staying.{AreStill, all_stay, each_stays, stays}
use Rattle.sm_select.proofs.SelectorViews.{step_is, step_not, step_test}
use Rattle.sm_select.proofs.SelectorWeight.{alternatives_weight, light_selector, light_step, step_weight, steps_weight}
use Rattle.sm_select.proofs.StillSteps.{one_all, each_at, one_begun, one_more, stays_at, still_any, still_begun, still_compare, still_ended}
use Rattle.sm_select.proofs.StillSteps.{still_has, still_is, still_named, still_next, still_not, still_test}
use Rattle.sm_select.proofs.staying.+still.Goals as goal

pub still_of_step-returns-in-Any : goal.still_of_step-returns-in-Any
still_of_step-returns-in-Any t c =
    still_any c.args.graph.now c.args.numbers.now (λ m. m.items) c.args.starts.now c.requires.count c.args.step.now c.in-Any.is
    c.same_marks.result c.same_marks.ensures

pub still_of_step-returns-in-Named : goal.still_of_step-returns-in-Named
still_of_step-returns-in-Named t c =
    still_named c.args.graph.now c.args.numbers.now (λ m. m.items) c.args.starts.now c.requires.count c.args.step.now c.in-Named.named
    c.in-Named.is c.kept_among.result c.kept_among.ensures

pub still_of_step-returns-in-Has : goal.still_of_step-returns-in-Has
still_of_step-returns-in-Has t c =
    still_has c.args.graph.now c.args.numbers.now (λ m. m.items) c.args.starts.now c.requires.count c.args.step.now c.in-Has.path
    c.in-Has.is c.kept_among-in-Has.result c.kept_among-in-Has.ensures

pub still_of_step-returns-in-Compare : goal.still_of_step-returns-in-Compare
still_of_step-returns-in-Compare t c =
    still_compare c.args.graph.now c.args.numbers.now (λ m. m.items) c.args.starts.now c.requires.count c.args.step.now c.in-Compare.compare
    c.in-Compare.is c.kept_by_text.result c.kept_by_text.ensures

-- The calls within forms: that the form's selectors don't move either, and weigh less (`c.decreases : .. ≡ t`).
pub still_of_step-still_of_any-requires : goal.still_of_step-still_of_any-requires
still_of_step-still_of_any-requires t c =
    let ss = selectors_view c.in-Is.selectors in
    let view = ap step_view c.in-Is.is ∙ step_is c.in-Is.selectors in
    let one : each_stays (alternatives_of (map steps_of ss)) ≡ true = sym (ap stays view) ∙ c.requires.stays in
    let weight : step_weight (step_view c.args.step.now) ≡ alternatives_weight (alternatives_of (map steps_of ss)) + 1 =
    ap step_weight view in
    let same = ap (λ xs. alternatives_weight (alternatives_of (map steps_of xs))) c.as_slice.ensures in
    let whole : step_weight (step_view c.args.step.now) ≡ t = c.decreases in (
      omega (arith, weight, same, whole),
      (ap (λ xs. each_stays (alternatives_of (map steps_of xs))) c.as_slice.ensures ∙ one, (c.requires.numbers, c.requires.count)),
    )

pub still_of_step-still_of-requires : goal.still_of_step-still_of-requires
still_of_step-still_of-requires t c =
    let ss = selector_view c.in-Not.selector in
    let view = ap step_view c.in-Not.is ∙ step_not c.in-Not.selector in
    let all : all_stay (steps_of ss) ≡ true = sym (ap stays view) ∙ c.requires.stays in
    let weight : step_weight (step_view c.args.step.now) ≡ steps_weight (steps_of ss) + 1 = ap step_weight view in
    let same = ap (λ xs. steps_weight (steps_of xs)) c.as_slice-in-Not.ensures in
    let whole : step_weight (step_view c.args.step.now) ≡ t = c.decreases in (
      omega (arith, weight, same, whole),
      (ap (λ xs. all_stay (steps_of xs)) c.as_slice-in-Not.ensures ∙ all, (c.requires.numbers, c.requires.count)),
    )

pub still_of_step-returns-in-Is : goal.still_of_step-returns-in-Is
still_of_step-returns-in-Is t c =
    let g = c.args.graph.now in
    still_is g c.args.numbers.now (λ m. m.items) c.args.starts.now c.requires.count c.args.step.now c.in-Is.selectors c.in-Is.is
    c.still_of_any.result
    (subst (λ ss. IfOk c.still_of_any.result
    (λ m. AreStill g c.args.numbers.now c.args.starts.now (PickedByOne (maps_of g) (alternatives_of (map steps_of ss))) m.items))
    c.as_slice.ensures c.still_of_any.ensures)

pub still_of_step-returns-in_ok-some-in-Not : goal.still_of_step-returns-in_ok-some-in-Not
still_of_step-returns-in_ok-some-in-Not t c =
    let g = c.args.graph.now in
    let starts = c.args.starts.now in
    let view = ap step_view c.in-Not.is ∙ step_not c.in-Not.selector in
    still_not g c.args.numbers.now (λ m. m.items) starts c.requires.count c.args.step.now c.in-Not.selector c.in-Not.is
    (sym (ap stays view) ∙ c.requires.stays) c.in_ok-some-in-Not.some.items
    (subst (λ ss. AreStill g c.args.numbers.now starts (Picks (maps_of g) (steps_of ss)) c.in_ok-some-in-Not.some.items)
    c.as_slice-in-Not.ensures c.in_ok-some-in-Not.ensures)
    c.kept_where.result
    (subst (λ p. IfOk c.kept_where.result (λ m. AreMarks (length starts) (λ k. IsMarked starts k × (get_or p k false ≡ false)) m.items))
    c.deref.ensures.value c.kept_where.ensures)

pub still_of_step-returns-in-Test : goal.still_of_step-returns-in-Test
still_of_step-returns-in-Test t c =
    let g = c.args.graph.now in
    let view = ap step_view c.in-Test.is ∙ step_test c.in-Test.selectors in
    still_test g c.args.numbers.now (λ m. m.items) c.args.starts.now c.requires.count c.args.step.now c.in-Test.selectors c.in-Test.is
    (sym (ap stays view) ∙ c.requires.stays) c.still_of_any-in-Test.result
    (subst (λ ss. IfOk c.still_of_any-in-Test.result
    (λ m. AreStill g c.args.numbers.now c.args.starts.now (PickedByOne (maps_of g) (alternatives_of (map steps_of ss))) m.items))
    c.as_slice-in-Test.ensures c.still_of_any-in-Test.ensures)

pub still_of-loop-step-init : goal.still_of-loop-step-init
still_of-loop-step-init t c = record {
  count = ap length c.in_ok-marks.ensures ∙ c.requires.count;
  keeps = still_begun c.args.graph.now c.args.numbers.now c.args.starts.now c.in_ok-marks.marks.items
      (steps_of (step_views c.args.steps.now)) c.in_ok-marks.ensures;
}

pub still_of-still_of_step-requires : goal.still_of-still_of_step-requires
still_of-still_of_step-requires t c =
    let steps = c.args.steps.now in
    let i = c.loop-step.step-index in
    let x = c.step-item.result in
    let light = light_step steps i x c.loop-step-test.true c.step-item.is in
    let whole : steps_weight (steps_of (step_views steps)) ≡ t = c.decreases in
    let still = stays_at steps i x c.loop-step-test.true c.step-item.is c.requires.stays in
    (omega (arith, light, whole), (still, (c.requires.numbers, ap length c.deref.ensures.value ∙ c.loop-step.invariant.count)))

pub still_of-loop-step-preserved : goal.still_of-loop-step-preserved
still_of-loop-step-preserved t c =
    let g = c.args.graph.now in
    let ns = c.args.numbers.now in
    let at = c.loop-step in
    let steps = c.args.steps.now in
    let x = c.step-item.result in
    let now = c.in_ok-marks-2.marks.items in
    let still = stays_at steps at.step-index x c.loop-step-test.true c.step-item.is c.requires.stays in
    let step : AreStill g ns at.marks.items (Goes (maps_of g) (step_view x)) now =
    subst (λ xs. AreStill g ns xs (Goes (maps_of g) (step_view x)) now) c.deref.ensures.value c.in_ok-marks-2.ensures in
    record {
      count = step.whole;
      keeps = still_next g ns c.args.starts.now at.marks.items now steps at.step-index x (steps_of (step_views steps)) c.loop-step-test.true
          c.step-item.is still step at.invariant.keeps;
    }

pub still_of-returns : goal.still_of-returns
still_of-returns t c =
    let at = c.loop-step in
    let steps = c.args.steps.now in
    still_ended c.args.graph.now c.args.numbers.now c.args.starts.now at.marks.items steps at.step-index (steps_of (step_views steps))
    c.loop-step-test.false at.invariant.count at.invariant.keeps

pub still_of_any-loop-selector-init : goal.still_of_any-loop-selector-init
still_of_any-loop-selector-init t c = record {
  count = ap length c.in_ok-marks.ensures ∙ length-replicate _ false ∙ c.requires.count;
  keeps = one_begun c.args.graph.now c.args.numbers.now c.args.starts.now c.in_ok-marks.marks.items _ c.args.selectors.now
      c.in_ok-marks.ensures;
}

pub still_of_any-still_of-requires : goal.still_of_any-still_of-requires
still_of_any-still_of-requires t c =
    let ss = c.args.selectors.now in
    let i = c.loop-selector.selector-index in
    let x = c.selector-item.result in
    let light = light_selector ss i x c.as_slice.result.now c.loop-selector-test.true c.selector-item.is c.as_slice.ensures in
    let whole : alternatives_weight (alternatives_of (map steps_of (selector_views ss))) ≡ t = c.decreases in
    let still = each_at ss i x c.loop-selector-test.true c.selector-item.is c.requires.stays in (
      omega (arith, light, whole),
      (ap (λ xs. all_stay (steps_of xs)) c.as_slice.ensures ∙ still, (c.requires.numbers, c.requires.count)),
    )

pub still_of_any-loop-selector-preserved : goal.still_of_any-loop-selector-preserved
still_of_any-loop-selector-preserved t c =
    let g = c.args.graph.now in
    let ns = c.args.numbers.now in
    let at = c.loop-selector in
    let ss = c.args.selectors.now in
    let x = c.selector-item.result in
    let starts = c.args.starts.now in
    let more = c.in_ok-more.more.items in
    let now = c.mark_too.new.marks.items in
    let are : AreStill g ns starts (Picks (maps_of g) (steps_of (selector_view x))) more =
    subst (λ xs. AreStill g ns starts (Picks (maps_of g) (steps_of xs)) more) c.as_slice.ensures c.in_ok-more.ensures in
    let too : (k : ℕ) → IsMarked now k ↔ (IsMarked at.marks.items k ⊎ IsMarked more k) =
    subst (λ xs. (k : ℕ) → IsMarked now k ↔ (IsMarked at.marks.items k ⊎ IsMarked xs k)) c.deref.ensures.value c.mark_too.ensures.marked in
    record {
      count = c.mark_too.ensures.count ∙ at.invariant.count;
      keeps = one_more g ns starts at.marks.items more now ss ss at.selector-index x c.loop-selector-test.true c.selector-item.is are too
          at.invariant.keeps;
    }

pub still_of_any-returns : goal.still_of_any-returns
still_of_any-returns t c =
    let at = c.loop-selector in
    one_all c.args.graph.now c.args.numbers.now c.args.starts.now at.marks.items c.args.selectors.now c.args.selectors.now
    at.selector-index c.loop-selector-test.false at.invariant.count at.invariant.keeps
