-- What a selector of the code stands for. Steps and selectors are seen as lists.
use Rattle.std.specs.Prelude.{List, map}
use Rattle.sm_select.specs.Selectors.{Attribute, id_of, namespace_of, name_of, member_of, trait_of}
use Rattle.sm_select.specs.Selectors.{Step, any_shape, of_kind, has, compares, forward, back, walk, along, picked_by, picks_none}
use Rattle.sm_select.specs.Selectors.{picks_some}
use Rattle.sm_select.specs.Selectors.{steps_of, alternatives_of}
use Rattle.sm_select.specs.declared.selector.SelectorPath.{SelectorPath}
use Rattle.sm_select.specs.declared.selector.SelectorPath.TheVariants.{Id, IdNamespace, IdName, IdMember, Trait}
use Rattle.sm_select.specs.declared.selector.SelectorStep.{SelectorStep, fold-SelectorStep}
use Rattle.sm_select.specs.declared.selector.Selector.{Selector, fold-Selector}
use Rattle.sm_select.specs.declared.selector.Selectors.{Selectors, fold-Selectors}
use Rattle.sm_select.specs.declared.selector.SelectorStep.TheOpen.{SelectorStep-F, Selector-F, Selectors-F}

abbrev pub path_view : SelectorPath → Attribute
path_view Id = id_of
path_view IdNamespace = namespace_of
path_view IdName = name_of
path_view IdMember = member_of
path_view (Trait trait keys) = trait_of trait keys

-- one level of a step, whose selectors have been seen
abbrev pub step_step : SelectorStep-F Step (List Step) (List (List Step)) → Step
step_step SelectorStep-F.Any = any_shape
step_step (SelectorStep-F.Named named) = of_kind named
step_step (SelectorStep-F.Has path) = has (path_view path)
step_step (SelectorStep-F.Compare c) = compares (path_view c.path) c.op c.values c.fold
step_step SelectorStep-F.Forward = forward
step_step SelectorStep-F.Back = back
step_step SelectorStep-F.Walk = walk
step_step (SelectorStep-F.Along relations) = along relations
step_step (SelectorStep-F.Is selectors) = picked_by (alternatives_of (map steps_of selectors))
step_step (SelectorStep-F.Not selector) = picks_none (steps_of selector)
step_step (SelectorStep-F.Test selectors) = picks_some (alternatives_of (map steps_of selectors))

abbrev pub selector_step : Selector-F Step (List Step) (List (List Step)) → List Step
selector_step v = v.steps.items

abbrev pub selectors_step : Selectors-F Step (List Step) (List (List Step)) → List (List Step)
selectors_step v = v.selectors.items

abbrev pub step_view : SelectorStep → Step
step_view = fold-SelectorStep Step (List Step) (List (List Step)) step_step selector_step selectors_step

abbrev pub selector_view : Selector → List Step
selector_view = fold-Selector Step (List Step) (List (List Step)) step_step selector_step selectors_step

abbrev pub selectors_view : Selectors → List (List Step)
selectors_view = fold-Selectors Step (List Step) (List (List Step)) step_step selector_step selectors_step

-- the same of steps and selectors that stand by themselves
abbrev pub step_views : List SelectorStep → List Step
step_views ss = map step_view ss

abbrev pub selector_views : List Selector → List (List Step)
selector_views ss = map selector_view ss
