use Rattle.std.proofs.Common.{◌≡◌, ◌⊎◌, ◌↔◌, ℕ, ◌+◌, ◌-◌, ◌*◌, ◌<◌, List, IfOk, ap, arith, false, get_or, length, map, subst, true}
use Rattle.std.proofs.Common.{◌∙◌}
use Rattle.std.proofs.lemmas.Result.{IfOk-weaker}
use Rattle.sm_model.specs.GraphView.{maps_of}
use Rattle.sm_model.specs.Reaching.{AreMarks, IsMarked}
use Rattle.sm_select.specs.Images.{AreImage, turned}
use Rattle.sm_select.specs.Picks.{Goes, LeadsAlong, PickedByOne, Picks}
use Rattle.sm_select.specs.Selectors.{alternatives_of, steps_of}
use Rattle.sm_select.specs.View.{selector_view, selector_views, step_view, step_views}
use Rattle.sm_select.specs.steps.Imaging.{ArePicking}
use Rattle.sm_select.proofs.LedInGraph.{one_in, picks_in}
use Rattle.sm_select.proofs.PickedImages.{are_picking}
use Rattle.sm_select.proofs.SelectorLists.{any_all, any_step, back_all, back_none, back_step, on_all, on_step}
use Rattle.sm_select.proofs.SelectorWeight.{alternatives_weight, light_selector, light_step, step_weight, steps_weight}
use Rattle.sm_select.proofs.StepImages.{comes_along, comes_any, comes_compare, comes_has, comes_is, comes_named, comes_not, comes_test}
use Rattle.sm_select.proofs.images.+images.Goals as goal

pub image_of_step-returns-in-Any : goal.image_of_step-returns-in-Any
image_of_step-returns-in-Any t c =
    comes_any (λ m. m.items) c.args.graph.now c.args.back c.args.starts.now c.requires.count c.args.step.now c.in-Any.is
    c.same_marks.result c.same_marks.ensures

pub image_of_step-returns-in-Named : goal.image_of_step-returns-in-Named
image_of_step-returns-in-Named t c =
    comes_named (λ m. m.items) c.args.graph.now c.args.back c.args.starts.now c.requires.count c.args.step.now c.in-Named.named
    c.in-Named.is c.kept_by_kind.result c.kept_by_kind.ensures

pub image_of_step-returns-in-Has : goal.image_of_step-returns-in-Has
image_of_step-returns-in-Has t c =
    comes_has (λ m. m.items) c.args.graph.now c.args.back c.args.starts.now c.requires.count c.args.step.now c.in-Has.path
    c.in-Has.is c.kept_by_path.result c.kept_by_path.ensures

pub image_of_step-returns-in-Compare : goal.image_of_step-returns-in-Compare
image_of_step-returns-in-Compare t c =
    comes_compare (λ m. m.items) c.args.graph.now c.args.back c.args.starts.now c.requires.count c.args.step.now c.in-Compare.compare
    c.in-Compare.is c.kept_by_text.result c.kept_by_text.ensures

pub image_of_step-returns-in-Along : goal.image_of_step-returns-in-Along
image_of_step-returns-in-Along t c =
    let g = c.args.graph.now in
    comes_along (λ m. m.items) g c.args.back c.args.starts.now c.requires.count c.args.step.now c.in-Along.names c.in-Along.is
    c.image_along.result
    (subst (λ ns. IfOk c.image_along.result (λ m. AreImage g c.args.starts.now (turned c.args.back (LeadsAlong (maps_of g) ns)) m.items))
    c.as_slice.ensures c.image_along.ensures)

pub image_of_step-returns-in-Is : goal.image_of_step-returns-in-Is
image_of_step-returns-in-Is t c =
    let g = c.args.graph.now in
    comes_is (λ m. m.items) g c.args.back c.args.starts.now c.requires.count c.args.step.now c.in-Is.selectors c.in-Is.is
    c.image_of_any.result
    (subst (λ ss. IfOk c.image_of_any.result
    (λ m. AreImage g c.args.starts.now (turned c.args.back (PickedByOne (maps_of g) (alternatives_of (map steps_of ss)))) m.items))
    c.as_slice-in-Is.ensures c.image_of_any.ensures)

pub image_of_step-returns-in_ok-some-in-Not : goal.image_of_step-returns-in_ok-some-in-Not
image_of_step-returns-in_ok-some-in-Not t c =
    let g = c.args.graph.now in
    let starts = c.args.starts.now in
    comes_not (λ m. m.items) g c.args.back starts c.requires.count c.args.step.now c.in-Not.selector c.in-Not.is
    c.in_ok-some-in-Not.some.items
    (subst (λ ss. ArePicking g (Picks (maps_of g) (steps_of ss)) c.in_ok-some-in-Not.some.items) c.as_slice-in-Not.ensures
    c.in_ok-some-in-Not.ensures)
    c.kept_where.result
    (subst (λ p. IfOk c.kept_where.result (λ m. AreMarks (length starts) (λ k. IsMarked starts k × (get_or p k false ≡ false)) m.items))
    c.deref.ensures.value c.kept_where.ensures)

pub image_of_step-returns-in_ok-some-in-Test : goal.image_of_step-returns-in_ok-some-in-Test
image_of_step-returns-in_ok-some-in-Test t c =
    let g = c.args.graph.now in
    let starts = c.args.starts.now in
    comes_test (λ m. m.items) g c.args.back starts c.requires.count c.args.step.now c.in-Test.selectors c.in-Test.is
    c.in_ok-some-in-Test.some.items
    (subst (λ ss. ArePicking g (PickedByOne (maps_of g) (alternatives_of (map steps_of ss))) c.in_ok-some-in-Test.some.items)
    c.as_slice-in-Test.ensures c.in_ok-some-in-Test.ensures)
    c.kept_where-in-Test.result
    (subst (λ p. IfOk c.kept_where-in-Test.result (λ m. AreMarks (length starts)
    (λ k. IsMarked starts k × (get_or p k false ≡ true)) m.items))
    c.deref-in-Test.ensures.value c.kept_where-in-Test.ensures)

pub image_of-image_of_step-requires : goal.image_of-image_of_step-requires
image_of-image_of_step-requires t c =
    let steps = c.args.steps.now in
    let x = c.step-item.result in
    let light = light_step steps c.loop-step.step-index x c.loop-step-test.true c.step-item.is in
    let whole : 4 * steps_weight (steps_of (step_views steps)) ≡ t = c.decreases in
    let falls : 4 * step_weight (step_view x) < t = omega (arith, light, whole) in
    (falls, (ap length c.deref.ensures.value ∙ c.loop-step.invariant.count, c.requires.ways))

pub image_of-loop-step-preserved : goal.image_of-loop-step-preserved
image_of-loop-step-preserved t c =
    let g = c.args.graph.now in
    let at = c.loop-step in
    let steps = c.args.steps.now in
    let x = c.step-item.result in
    let now = c.in_ok-marks-2.marks.items in
    let step : AreImage g at.marks.items (turned false (Goes (maps_of g) (step_view x))) now =
    subst (λ xs. AreImage g xs (turned false (Goes (maps_of g) (step_view x))) now) c.deref.ensures.value c.in_ok-marks-2.ensures in
    record {
      count = step.whole;
      leads = on_step g c.args.starts.now at.marks.items now steps at.step-index x (steps_of (step_views steps)) c.loop-step-test.true
          c.step-item.is at.invariant.count step at.invariant.leads;
    }

pub image_of-returns : goal.image_of-returns
image_of-returns t c =
    let at = c.loop-step in
    let steps = c.args.steps.now in
    on_all c.args.graph.now c.args.starts.now at.marks.items steps at.step-index (steps_of (step_views steps)) c.loop-step-test.false
    at.invariant.count at.invariant.leads

pub image_of_any-image-requires : goal.image_of_any-image-requires
image_of_any-image-requires t c =
    let ss = c.args.selectors.now in
    let steps = c.as_slice.result.now in
    let light = light_selector ss c.loop-selector.selector-index c.selector-item.result steps c.loop-selector-test.true c.selector-item.is
    c.as_slice.ensures in
    let whole : 4 * alternatives_weight (alternatives_of (map steps_of (selector_views ss))) ≡ t = c.decreases in
    let falls : 4 * steps_weight (steps_of (step_views steps)) + 1 < t = omega (arith, light, whole) in
    (falls, (c.requires.count, c.requires.ways))

pub image_of_any-loop-selector-preserved : goal.image_of_any-loop-selector-preserved
image_of_any-loop-selector-preserved t c =
    let g = c.args.graph.now in
    let at = c.loop-selector in
    let ss = c.args.selectors.now in
    let x = c.selector-item.result in
    let starts = c.args.starts.now in
    let back = c.args.back in
    let more = c.in_ok-more.more.items in
    let now = c.mark_too.new.marks.items in
    let are : AreImage g starts (turned back (Picks (maps_of g) (steps_of (selector_view x)))) more =
    subst (λ xs. AreImage g starts (turned back (Picks (maps_of g) (steps_of xs))) more) c.as_slice.ensures c.in_ok-more.ensures in
    let too : (k : ℕ) → IsMarked now k ↔ (IsMarked at.marks.items k ⊎ IsMarked more k) =
    subst (λ xs. (k : ℕ) → IsMarked now k ↔ (IsMarked at.marks.items k ⊎ IsMarked xs k)) c.deref.ensures.value c.mark_too.ensures.marked in
    record {
      count = c.mark_too.ensures.count ∙ at.invariant.count;
      leads = any_step g back starts at.marks.items more now ss at.selector-index x (alternatives_of (map steps_of (selector_views ss)))
          c.loop-selector-test.true c.selector-item.is are too at.invariant.leads;
    }

pub image_of_any-returns : goal.image_of_any-returns
image_of_any-returns t c =
    let at = c.loop-selector in
    let ss = c.args.selectors.now in
    any_all c.args.graph.now c.args.back c.args.starts.now at.marks.items ss at.selector-index
    (alternatives_of (map steps_of (selector_views ss))) c.loop-selector-test.false at.invariant.count at.invariant.leads

pub origin_of-loop-done-init : goal.origin_of-loop-done-init
origin_of-loop-done-init t c = record {
  count = ap length c.in_ok-marks.ensures ∙ c.requires.count;
  leads = back_none c.args.graph.now c.args.ends.now c.in_ok-marks.marks.items c.args.steps.now c.requires.count c.in_ok-marks.ensures;
}

pub origin_of-image_of_step-requires : goal.origin_of-image_of_step-requires
origin_of-image_of_step-requires t c =
    let steps = c.args.steps.now in
    let done = c.loop-done.done in
    let x = c.index-steps-steps.result in
    let light = light_step steps (length steps - 1 - done) x (omega (arith, c.loop-done-test.true)) c.index-steps-steps.is in
    let whole : 4 * steps_weight (steps_of (step_views steps)) ≡ t = c.decreases in
    let falls : 4 * step_weight (step_view x) < t = omega (arith, light, whole) in
    (falls, (ap length c.deref.ensures.value ∙ c.loop-done.invariant.count, c.requires.ways))

pub origin_of-loop-done-preserved : goal.origin_of-loop-done-preserved
origin_of-loop-done-preserved t c =
    let g = c.args.graph.now in
    let at = c.loop-done in
    let steps = c.args.steps.now in
    let x = c.index-steps-steps.result in
    let now = c.in_ok-marks-2.marks.items in
    let step : AreImage g at.marks.items (turned true (Goes (maps_of g) (step_view x))) now =
    subst (λ xs. AreImage g xs (turned true (Goes (maps_of g) (step_view x))) now) c.deref.ensures.value c.in_ok-marks-2.ensures in
    record {
      count = step.whole;
      leads = back_step g c.args.ends.now at.marks.items now steps at.done x c.loop-done-test.true c.index-steps-steps.is
          c.requires.count at.invariant.leads step;
    }

pub origin_of-returns : goal.origin_of-returns
origin_of-returns t c =
    let at = c.loop-done in
    back_all c.args.graph.now c.args.ends.now at.marks.items c.args.steps.now at.done c.loop-done-test.false at.invariant.leads

pub picking-returns : goal.picking-returns
picking-returns t c =
    let g = c.args.graph.now in
    let Leads : List ℕ → List ℕ → Type 0 = Picks (maps_of g) (steps_of (step_views c.args.steps.now)) in
    let every = subst (λ n. AreMarks n (λ k. Unit {0}) c.in_ok-all.all.items) c.count.ensures c.in_ok-all.ensures in
    IfOk-weaker c.origin_of.result (λ m. AreImage g c.deref.result.now (turned true Leads) m.items) (λ m. ArePicking g Leads m.items)
    (λ m are. are_picking g Leads (λ a b. picks_in (maps_of g) (steps_of (step_views c.args.steps.now)) a b) c.in_ok-all.all.items m.items
    every (subst (λ xs. AreImage g xs (turned true Leads) m.items) c.deref.ensures.value are))
    c.origin_of.ensures

pub picking_any-returns : goal.picking_any-returns
picking_any-returns t c =
    let g = c.args.graph.now in
    let ss = alternatives_of (map steps_of (selector_views c.args.selectors.now)) in
    let Leads : List ℕ → List ℕ → Type 0 = PickedByOne (maps_of g) ss in
    let every = subst (λ n. AreMarks n (λ k. Unit {0}) c.in_ok-all.all.items) c.count.ensures c.in_ok-all.ensures in
    IfOk-weaker c.image_of_any.result (λ m. AreImage g c.deref.result.now (turned true Leads) m.items) (λ m. ArePicking g Leads m.items)
    (λ m are. are_picking g Leads (λ a b. one_in (maps_of g) ss a b) c.in_ok-all.all.items m.items
    every (subst (λ xs. AreImage g xs (turned true Leads) m.items) c.deref.ensures.value are))
    c.image_of_any.ensures
