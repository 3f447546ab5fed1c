use Rattle.std.proofs.Common.{◌==◌, [], ◌∷◌, ◌++◌, refl, ap, ◌∙◌}
use Rattle.sm_select.specs.View.{selector_views, step_view, step_views}
use Rattle.sm_select.specs.declared.parser_stack.OpenForm.TheVariants.{Is as an_is, Not as a_not, Test as a_test}
use Rattle.sm_select.specs.declared.selector.SelectorStep.TheVariants.{Is as is_step, Not as not_step, Test as test_step}
use Rattle.sm_select.specs.declared.tokens.SelectorForm.TheVariants.{Is, Not, Test}
use Rattle.sm_select.specs.steps.Stack.{place_of}
use Rattle.sm_select.proofs.StackPlaces.{form_closed, is_held, not_empty, not_held, test_held}
use Rattle.sm_select.proofs.parser_stack.Open.close.Goals as goal

pub returns-in-Some-Not : goal.returns-in-Some-Not
returns-in-Some-Not c =
    let ss = c.args.self.now.steps.items in
    form_closed Not ss c.args.self.now.forms.items c.pop.new.self.items c.leave-last.new.self.forms.items (a_not c.in-Some-Not.before)
    c.in-Some-Not.before.items c.leave-last.new.self.steps.items [] (step_view (not_step c.leave-last.result)) (place_of c.end.new.self)
    c.end.result (not_empty ss c.is_empty.result (c.is_empty.ensures ∙ ap (λ n. n == 0) c.args.self.now.steps.ok.0) c.if-is_empty.false)
    (c.in-Some-Not.ensures.items ∙ ap (λ o. c.pop.new.self.items ++ o ∷ []) c.in-Some-Not.field-0-is) refl
    (not_held c.leave-last.result (step_views ss) c.leave-last.ensures.whole) c.leave-last.ensures.before c.leave-last.ensures.forms
    c.end.ensures

pub returns-in-Ok : goal.returns-in-Ok
returns-in-Ok c =
    let ss = c.args.self.now.steps.items in
    form_closed Is ss c.args.self.now.forms.items c.pop.new.self.items c.leave-last-in-Some-Is.new.self.forms.items
    (an_is c.in-Some-Is.listed) c.in-Some-Is.listed.before.items
    c.leave-last-in-Some-Is.new.self.steps.items (selector_views c.in-Some-Is.listed.done.items) (step_view (is_step c.new.result))
    (place_of c.end-in-Ok.new.self) c.end-in-Ok.result
    (not_empty ss c.is_empty.result (c.is_empty.ensures ∙ ap (λ n. n == 0) c.args.self.now.steps.ok.0) c.if-is_empty.false)
    (c.in-Some-Is.ensures.items ∙ ap (λ o. c.pop.new.self.items ++ o ∷ []) c.in-Some-Is.field-0-is) refl
    (is_held c.new.result c.in-Some-Is.listed.done.items c.leave-last-in-Some-Is.result (step_views ss)
    (c.new.ensures ∙ ap selector_views c.in-Ok.ensures.more) c.leave-last-in-Some-Is.ensures.whole)
    c.leave-last-in-Some-Is.ensures.before c.leave-last-in-Some-Is.ensures.forms c.end-in-Ok.ensures

pub returns-in-Ok-with_last : goal.returns-in-Ok-with_last
returns-in-Ok-with_last c =
    let ss = c.args.self.now.steps.items in
    form_closed Test ss c.args.self.now.forms.items c.pop.new.self.items c.leave-last-in-Some-Test.new.self.forms.items
    (a_test c.in-Some-Test.listed) c.in-Some-Test.listed.before.items
    c.leave-last-in-Some-Test.new.self.steps.items (selector_views c.in-Some-Test.listed.done.items)
    (step_view (test_step c.new-in-Ok-with_last.result)) (place_of c.end-in-Ok-with_last.new.self) c.end-in-Ok-with_last.result
    (not_empty ss c.is_empty.result (c.is_empty.ensures ∙ ap (λ n. n == 0) c.args.self.now.steps.ok.0) c.if-is_empty.false)
    (c.in-Some-Test.ensures.items ∙ ap (λ o. c.pop.new.self.items ++ o ∷ []) c.in-Some-Test.field-0-is) refl
    (test_held c.new-in-Ok-with_last.result c.in-Some-Test.listed.done.items c.leave-last-in-Some-Test.result (step_views ss)
    (c.new-in-Ok-with_last.ensures ∙ ap selector_views c.in-Ok-with_last.ensures.more) c.leave-last-in-Some-Test.ensures.whole)
    c.leave-last-in-Some-Test.ensures.before c.leave-last-in-Some-Test.ensures.forms c.end-in-Ok-with_last.ensures
