-- A measure for recursions over selectors: each part weighs less than the whole.
use Rattle.std.proofs.Common.{◌≡◌, ℕ, ◌+◌, ◌<◌, zero, suc, List, [], ◌∷◌, length, get_or, map, ap, subst, sym, arith}
use Rattle.sm_select.specs.Selectors.{Step, any_shape, of_kind, has, compares, forward, back, walk, along, picked_by, picks_none}
use Rattle.sm_select.specs.Selectors.{picks_some}
use Rattle.sm_select.specs.Selectors.{Steps, no_steps, then, steps_of, Alternatives, no_selectors, or_by, alternatives_of}
use Rattle.sm_select.specs.View.{selector_view, selector_views, step_view, step_views}
use Rattle.sm_select.specs.declared.selector.Selector.{Selector}
use Rattle.sm_select.specs.declared.selector.SelectorStep.{SelectorStep}

abbrev mutual
  pub step_weight : Step → ℕ
  step_weight any_shape = 1
  step_weight (of_kind named) = 1
  step_weight (has path) = 1
  step_weight (compares path op values fold) = 1
  step_weight forward = 1
  step_weight back = 1
  step_weight walk = 1
  step_weight (along names) = 1
  step_weight (picked_by selectors) = alternatives_weight selectors + 1
  step_weight (picks_none steps) = steps_weight steps + 1
  step_weight (picks_some selectors) = alternatives_weight selectors + 1

  pub steps_weight : Steps → ℕ
  steps_weight no_steps = 0
  steps_weight (then step steps) = step_weight step + steps_weight steps + 1

  pub alternatives_weight : Alternatives → ℕ
  alternatives_weight no_selectors = 0
  alternatives_weight (or_by steps selectors) = steps_weight steps + alternatives_weight selectors + 1

-- a step weighs less than the steps, and a selector less than several
step_light : (ss : List SelectorStep) (i : ℕ) (d : SelectorStep) → i < length ss
    → step_weight (step_view (get_or ss i d)) < steps_weight (steps_of (step_views ss))
step_light [] i d lt = absurd (omega (arith, lt))
step_light (s ∷ ss) zero d lt = omega arith
step_light (s ∷ ss) (suc i) d lt = let rest = step_light ss i d (omega (arith, lt)) in omega (arith, rest)

selector_light : (ss : List Selector) (i : ℕ) (d : Selector) → i < length ss
    → steps_weight (steps_of (selector_view (get_or ss i d))) < alternatives_weight (alternatives_of (map steps_of (selector_views ss)))
selector_light [] i d lt = absurd (omega (arith, lt))
selector_light (s ∷ ss) zero d lt = omega arith
selector_light (s ∷ ss) (suc i) d lt = let rest = selector_light ss i d (omega (arith, lt)) in omega (arith, rest)

-- so does what was read at a place
pub light_step : (ss : List SelectorStep) (i : ℕ) (x : SelectorStep) → i < length ss → x ≡ get_or ss i x
    → step_weight (step_view x) < steps_weight (steps_of (step_views ss))
light_step ss i x lt is = subst (λ y. step_weight (step_view y) < steps_weight (steps_of (step_views ss))) (sym is) (step_light ss i x lt)

pub light_selector : (ss : List Selector) (i : ℕ) (x : Selector) (steps : List SelectorStep) → i < length ss → x ≡ get_or ss i x
    → step_views steps ≡ selector_view x
    → steps_weight (steps_of (step_views steps)) < alternatives_weight (alternatives_of (map steps_of (selector_views ss)))
light_selector ss i x steps lt is same =
    let all = alternatives_weight (alternatives_of (map steps_of (selector_views ss))) in
    subst (λ w. w < all) (sym (ap (λ xs. steps_weight (steps_of xs)) same))
    (subst (λ y. steps_weight (steps_of (selector_view y)) < all) (sym is) (selector_light ss i x lt))
