use Rattle.std.proofs.Common.{◌≡◌, ap, arith, map, sym, ◌∙◌}
use Rattle.sm_select.specs.Selectors.{alternatives_of, steps_of}
use Rattle.sm_select.specs.View.{selector_views, step_views}
use Rattle.sm_select.specs.steps.Staying.{all_stay}
use Rattle.sm_select.proofs.SelectorWeight.{alternatives_weight, light_selector, light_step, steps_weight}
use Rattle.sm_select.proofs.StillSteps.{all_ended, all_next, all_stopped, each_ended, each_next, each_stopped}
use Rattle.sm_select.proofs.staying.+staying.Goals as goal

pub all_stay-stays-requires : goal.all_stay-stays-requires
all_stay-stays-requires t c =
    let steps = c.args.steps.now in
    let light = light_step steps c.loop-step.step-index c.step-item.result c.loop-step-test.true c.step-item.is in
    let whole : steps_weight (steps_of (step_views steps)) ≡ t = c.decreases in
    (omega (arith, light, whole), tt)

pub each_stays-all_stay-requires : goal.each_stays-all_stay-requires
each_stays-all_stay-requires t c =
    let ss = c.args.selectors.now in
    let light = light_selector ss c.loop-selector.selector-index c.selector-item.result c.as_slice.result.now c.loop-selector-test.true
    c.selector-item.is c.as_slice.ensures in
    let whole : alternatives_weight (alternatives_of (map steps_of (selector_views ss))) ≡ t = c.decreases in
    (omega (arith, light, whole), tt)

pub all_stay-returns-then-not-stays : goal.all_stay-returns-then-not-stays
all_stay-returns-then-not-stays t c =
    all_stopped c.args.steps.now c.loop-step.step-index c.step-item.result c.loop-step-test.true c.step-item.is
    (sym c.stays.ensures ∙ c.if-not-stays.true) c.loop-step.invariant

pub all_stay-loop-step-preserved : goal.all_stay-loop-step-preserved
all_stay-loop-step-preserved t c =
    all_next c.args.steps.now c.loop-step.step-index c.step-item.result c.loop-step-test.true c.step-item.is
    (sym c.stays.ensures ∙ c.if-not-stays.false) c.loop-step.invariant

pub all_stay-returns : goal.all_stay-returns
all_stay-returns t c = all_ended c.args.steps.now c.loop-step.step-index c.loop-step-test.false c.loop-step.invariant

pub each_stays-returns-then-not-all_stay : goal.each_stays-returns-then-not-all_stay
each_stays-returns-then-not-all_stay t c =
    each_stopped c.args.selectors.now c.loop-selector.selector-index c.selector-item.result c.loop-selector-test.true c.selector-item.is
    (ap (λ ss. all_stay (steps_of ss)) (sym c.as_slice.ensures) ∙ sym c.all_stay.ensures ∙ c.if-not-all_stay.true) c.loop-selector.invariant

pub each_stays-loop-selector-preserved : goal.each_stays-loop-selector-preserved
each_stays-loop-selector-preserved t c =
    each_next c.args.selectors.now c.loop-selector.selector-index c.selector-item.result c.loop-selector-test.true c.selector-item.is
    (ap (λ ss. all_stay (steps_of ss)) (sym c.as_slice.ensures) ∙ sym c.all_stay.ensures ∙ c.if-not-all_stay.false)
    c.loop-selector.invariant

pub each_stays-returns : goal.each_stays-returns
each_stays-returns t c =
    each_ended c.args.selectors.now c.loop-selector.selector-index c.loop-selector-test.false c.loop-selector.invariant
