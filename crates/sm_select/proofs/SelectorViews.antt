-- What `step_view` gives, variant by variant.
use Rattle.std.proofs.Common.{◌≡◌, List, map, Option, rules}
use Rattle.sm_model.specs.declared.kind.Kind.{Kind}
use Rattle.sm_model.specs.declared.relation.Relation.{Relation}
use Rattle.sm_select.specs.Selectors.{any_shape, of_kind, has, compares, forward, back, walk, along, picked_by, picks_none, picks_some}
use Rattle.sm_select.specs.Selectors.{alternatives_of, steps_of}
use Rattle.sm_select.specs.View.{path_view, step_view, selector_view, selectors_view}
use Rattle.sm_select.specs.declared.selector.Compare.{Compare as Comparison}
use Rattle.sm_select.specs.declared.selector.Selector.{Selector}
use Rattle.sm_select.specs.declared.selector.SelectorPath.{SelectorPath}
use Rattle.sm_select.specs.declared.selector.Selectors.{Selectors}
use Rattle.sm_select.specs.declared.selector.SelectorStep.{the_lemmas}
use Rattle.sm_select.specs.declared.selector.SelectorStep.TheVariants.{Any, Named, Has, Compare, Forward, Back, Walk, Along, Is, Not, Test}

pub step_any : step_view Any ≡ any_shape
step_any = search (rules, the_lemmas)

pub step_named : (named : Option Kind) → step_view (Named named) ≡ of_kind named
step_named named = search (rules, the_lemmas)

pub step_has : (path : SelectorPath) → step_view (Has path) ≡ has (path_view path)
step_has path = search (rules, the_lemmas)

pub step_compare : (c : Comparison) → step_view (Compare c) ≡ compares (path_view c.path) c.op c.values c.fold
step_compare c = search (rules, the_lemmas)

pub step_forward : step_view Forward ≡ forward
step_forward = search (rules, the_lemmas)

pub step_back : step_view Back ≡ back
step_back = search (rules, the_lemmas)

pub step_walk : step_view Walk ≡ walk
step_walk = search (rules, the_lemmas)

pub step_along : (names : List Relation) → step_view (Along names) ≡ along names
step_along names = search (rules, the_lemmas)

pub step_is : (v : Selectors) → step_view (Is v) ≡ picked_by (alternatives_of (map steps_of (selectors_view v)))
step_is v = search (rules, the_lemmas)

pub step_not : (v : Selector) → step_view (Not v) ≡ picks_none (steps_of (selector_view v))
step_not v = search (rules, the_lemmas)

pub step_test : (v : Selectors) → step_view (Test v) ≡ picks_some (alternatives_of (map steps_of (selectors_view v)))
step_test v = search (rules, the_lemmas)
