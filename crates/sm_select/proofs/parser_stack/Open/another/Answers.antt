use Rattle.std.proofs.Common.{◌==◌, [], ◌∷◌, ◌++◌, refl, sym, ap, ◌∙◌}
use Rattle.sm_select.specs.View.{selector_views}
use Rattle.sm_select.specs.declared.parser_stack.OpenForm.TheVariants.{Is as an_is, Not as a_not, Test as a_test}
use Rattle.sm_select.specs.declared.tokens.SelectorForm.TheVariants.{Is, Test}
use Rattle.sm_select.specs.steps.Stack.{place_of}
use Rattle.sm_select.proofs.StackPlaces.{form_continued, not_continued, not_empty, selectors_pushed}
use Rattle.sm_select.proofs.parser_stack.Open.another.Goals as goal

pub returns-in-Some-Not : goal.returns-in-Some-Not
returns-in-Some-Not c = λ n m.
    not_continued c.args.self.now.steps.items c.args.self.now.forms.items c.pop.new.self.items (a_not c.in-Some-Not.field-0-0)
    c.in-Some-Not.field-0-0.items n
    (sym c.leave-last.ensures.forms ∙ c.in-Some-Not.ensures.items ∙ ap (λ o. c.pop.new.self.items ++ o ∷ []) c.in-Some-Not.field-0-is)
    refl m

pub returns-in-Ok : goal.returns-in-Ok
returns-in-Ok c =
    let ss = c.args.self.now.steps.items in
    form_continued Is ss c.args.self.now.forms.items c.pop.new.self.items c.pop.new.self.items (an_is c.in-Some-Is.listed)
    (an_is (record { before = c.in-Some-Is.listed.before; done = c.in-Ok.done })) c.in-Some-Is.listed.before.items
    c.leave-last.new.self.steps.items
    (selector_views c.in-Some-Is.listed.done.items) (selector_views c.in-Ok.done.items) (place_of c.hold.new.self) c.hold.result
    (not_empty ss c.is_empty.result (c.is_empty.ensures ∙ ap (λ n. n == 0) c.args.self.now.steps.ok.0) c.if-is_empty.false) tt
    (sym c.leave-last.ensures.forms ∙ c.in-Some-Is.ensures.items ∙ ap (λ o. c.pop.new.self.items ++ o ∷ []) c.in-Some-Is.field-0-is) refl
    (ap selector_views c.in-Ok.ensures.more ∙ selectors_pushed c.in-Some-Is.listed.done.items c.leave-last.result
    ∙ ap (λ x. selector_views c.in-Some-Is.listed.done.items ++ x ∷ []) c.leave-last.ensures.whole)
    refl (c.leave-last.ensures.before ∙ c.new.ensures.items) refl c.hold.ensures

pub returns-in-Ok-with_last : goal.returns-in-Ok-with_last
returns-in-Ok-with_last c =
    let ss = c.args.self.now.steps.items in
    form_continued Test ss c.args.self.now.forms.items c.pop.new.self.items c.pop.new.self.items (a_test c.in-Some-Test.listed)
    (a_test (record { before = c.in-Some-Test.listed.before; done = c.in-Ok-with_last.done })) c.in-Some-Test.listed.before.items
    c.leave-last.new.self.steps.items
    (selector_views c.in-Some-Test.listed.done.items) (selector_views c.in-Ok-with_last.done.items)
    (place_of c.hold-in-Ok-with_last.new.self) c.hold-in-Ok-with_last.result
    (not_empty ss c.is_empty.result (c.is_empty.ensures ∙ ap (λ n. n == 0) c.args.self.now.steps.ok.0) c.if-is_empty.false) tt
    (sym c.leave-last.ensures.forms ∙ c.in-Some-Test.ensures.items ∙ ap (λ o. c.pop.new.self.items ++ o ∷ []) c.in-Some-Test.field-0-is)
    refl
    (ap selector_views c.in-Ok-with_last.ensures.more ∙ selectors_pushed c.in-Some-Test.listed.done.items c.leave-last.result
    ∙ ap (λ x. selector_views c.in-Some-Test.listed.done.items ++ x ∷ []) c.leave-last.ensures.whole)
    refl (c.leave-last.ensures.before ∙ c.new.ensures.items) refl c.hold-in-Ok-with_last.ensures
