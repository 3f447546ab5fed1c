-- What the stack of the reader stands for, as forms open and close.
use Rattle.std.proofs.Common.{◌≡◌, ◌==◌, ℕ, suc, Bool, true, false, List, [], ◌∷◌, ◌++◌, length, map, refl, sym, ap, ◌∙◌, subst}
use Rattle.std.proofs.Common.{arith, Result, Ok, Err}
use Rattle.std.proofs.lemmas.Bool.Decides.{nat_tests}
use Rattle.std.specs.Prelude.{MatchBool}
use Rattle.sm_select.specs.Selectors.{Step, picks_none, picked_by, picks_some, steps_of, alternatives_of}
use Rattle.sm_select.specs.View.{selector_view, selector_views, selectors_view, step_view, step_views}
use Rattle.sm_select.specs.declared.parser_stack.OpenForm.{OpenForm}
use Rattle.sm_select.specs.declared.selector.Selector.{Selector}
use Rattle.sm_select.specs.declared.selector.Selectors.{Selectors}
use Rattle.sm_select.specs.declared.selector.SelectorStep.{SelectorStep}
use Rattle.sm_select.specs.declared.selector.SelectorStep.TheVariants.{Is as is_step, Not as not_step, Test as test_step}
use Rattle.sm_select.specs.declared.tokens.SelectorForm.{SelectorForm}
use Rattle.sm_select.specs.declared.tokens.SelectorForm.TheVariants.{Is, Not, Test}
use Rattle.sm_select.specs.declared.refusal.SelectorRefusal.{SelectorRefusal}
use Rattle.sm_select.specs.declared.refusal.SelectorRefusal.TheVariants.{Syntax, OutOfProfile, NoMemory}
use Rattle.sm_select.specs.declared.tokens.Sign.{Sign}
use Rattle.sm_select.specs.declared.tokens.Sign.TheVariants.{Close, Comma}
use Rattle.sm_select.specs.steps.Places.{Frame, frame, held, IsListed, Moves, sign, Place, stepping, closes, another}
use Rattle.sm_select.specs.steps.Stack.{IsMoved, IsOnlySelector, IsThen, frame_of, frames_onto}
use Rattle.sm_select.proofs.SelectorViews.{step_is, step_not, step_test}

-- a form more is the innermost
pub frames_pushed : (os : List OpenForm) (o : OpenForm) (fs : List Frame) → frames_onto (os ++ o ∷ []) fs ≡ frame_of o ∷ frames_onto os fs
frames_pushed [] o fs = refl
frames_pushed (x ∷ os) o fs = frames_pushed os o (frame_of x ∷ fs)

pub selectors_pushed : (ss : List Selector) (s : Selector) → selector_views (ss ++ s ∷ []) ≡ selector_views ss ++ selector_view s ∷ []
selectors_pushed [] s = refl
selectors_pushed (x ∷ ss) s = ap (λ v. selector_view x ∷ v) (selectors_pushed ss s)

-- steps that a vector holds
pub some_steps : (ss : List SelectorStep) → (ss ≡ [] → ⊥) → step_views ss ≡ [] → ⊥
some_steps [] some e = some refl
some_steps (s ∷ ss) some e = cc

-- what closes, and what goes on
abbrev IsSome : {A : Type 0} → List A → Type 0
IsSome [] = ⊥
IsSome (x ∷ xs) = Unit {0}

abbrev IsListedFirst : List Frame → Type 0
IsListedFirst [] = ⊥
IsListedFirst (frame form outer done ∷ fs) = IsListed form

another_parts : {xs : List Step} {fs : List Frame} {n : Place} → Moves (stepping xs fs) (sign Comma) n → IsSome xs × IsListedFirst fs
another_parts (another several) = (tt, several)

none_empty : {A : Type 0} (xs : List A) → xs ≡ [] → IsSome xs → ⊥
none_empty [] e h = h
none_empty (x ∷ xs) e h = cc

pub no_comma_first : (xs : List Step) (fs : List Frame) (n : Place) → xs ≡ [] → Moves (stepping xs fs) (sign Comma) n → ⊥
no_comma_first xs fs n e m = none_empty xs e (another_parts m).0

none_listed : (fs : List Frame) → fs ≡ [] → IsListedFirst fs → ⊥
none_listed [] e h = h
none_listed (f ∷ fs) e h = cc

pub no_comma_in_not : (xs outer : List Step) (all fs : List Frame) (n : Place) → all ≡ frame Not outer [] ∷ fs
    → Moves (stepping xs all) (sign Comma) n
    → ⊥
no_comma_in_not xs outer all fs n e m = subst IsListedFirst e (another_parts m).1

close_moves : (xs outer : List Step) (form : SelectorForm) (done : List (List Step)) (fs : List Frame) → (xs ≡ [] → ⊥)
    → Moves (stepping xs (frame form outer done ∷ fs)) (sign Close) (stepping (outer ++ held form (done ++ xs ∷ []) ∷ []) fs)
close_moves [] outer form done fs some = absurd (some refl)
close_moves (x ∷ xs) outer form done fs some = closes

comma_moves : (xs outer : List Step) (form : SelectorForm) (done : List (List Step)) (fs : List Frame) → (xs ≡ [] → ⊥) → IsListed form
    → Moves (stepping xs (frame form outer done ∷ fs)) (sign Comma) (stepping [] (frame form outer (done ++ xs ∷ []) ∷ fs))
comma_moves [] outer form done fs some listed = absurd (some refl)
comma_moves (x ∷ xs) outer form done fs some listed = another listed

-- the step that a form is
pub is_held : (v : Selectors) (done : List Selector) (last : Selector) (xs : List Step)
    → selectors_view v ≡ selector_views (done ++ last ∷ [])
    → selector_view last ≡ xs
    → step_view (is_step v) ≡ held Is (selector_views done ++ xs ∷ [])
is_held v done last xs e f = step_is v ∙ ap (λ x. picked_by (alternatives_of (map steps_of x)))
    (e ∙ selectors_pushed done last ∙ ap (λ x. selector_views done ++ x ∷ []) f)

pub test_held : (v : Selectors) (done : List Selector) (last : Selector) (xs : List Step)
    → selectors_view v ≡ selector_views (done ++ last ∷ [])
    → selector_view last ≡ xs
    → step_view (test_step v) ≡ held Test (selector_views done ++ xs ∷ [])
test_held v done last xs e f = step_test v ∙ ap (λ x. picks_some (alternatives_of (map steps_of x)))
    (e ∙ selectors_pushed done last ∙ ap (λ x. selector_views done ++ x ∷ []) f)

pub not_held : (last : Selector) (xs : List Step) → selector_view last ≡ xs → step_view (not_step last) ≡ held Not (xs ∷ [])
not_held last xs f = step_not last ∙ ap (λ x. picks_none (steps_of x)) f

-- the form that closed is a step behind those before it
pub closed_moves : (form : SelectorForm) (xs outer now_steps : List Step) (done : List (List Step)) (all fs : List Frame) (step : Step)
    → (xs ≡ [] → ⊥)
    → all ≡ frame form outer done ∷ fs
    → step ≡ held form (done ++ xs ∷ [])
    → now_steps ≡ outer
    → Moves (stepping xs all) (sign Close) (stepping (now_steps ++ step ∷ []) fs)
closed_moves form xs outer now_steps done all fs step some e f g =
    subst (λ a. Moves (stepping xs a) (sign Close) (stepping (now_steps ++ step ∷ []) fs)) (sym e)
    (subst (λ s. Moves (stepping xs (frame form outer done ∷ fs)) (sign Close) (stepping (now_steps ++ s ∷ []) fs)) (sym f)
    (subst (λ b. Moves (stepping xs (frame form outer done ∷ fs)) (sign Close) (stepping (b ++ held form (done ++ xs ∷ []) ∷ []) fs))
    (sym g)
    (close_moves xs outer form done fs some)))

-- a form that goes on holds the selector before the comma
pub continued_moves : (form : SelectorForm) (xs outer : List Step) (done more : List (List Step)) (all fs : List Frame) → (xs ≡ [] → ⊥)
    → IsListed form
    → all ≡ frame form outer done ∷ fs
    → more ≡ done ++ xs ∷ []
    → Moves (stepping xs all) (sign Comma) (stepping [] (frame form outer more ∷ fs))
continued_moves form xs outer done more all fs some listed e f =
    subst (λ a. Moves (stepping xs a) (sign Comma) (stepping [] (frame form outer more ∷ fs))) (sym e)
    (subst (λ d. Moves (stepping xs (frame form outer done ∷ fs)) (sign Comma) (stepping [] (frame form outer d ∷ fs))) (sym f)
    (comma_moves xs outer form done fs some listed))

-- whether a selector is whole with no form around it
frames_some : (os : List OpenForm) (f : Frame) (fs : List Frame) → frames_onto os (f ∷ fs) ≡ [] → ⊥
frames_some [] f fs e = absurd cc
frames_some (o ∷ os) f fs e = frames_some os (frame_of o) (f ∷ fs) e

not_only : (ss : List Step) (fs : List Frame) → (fs ≡ [] → ⊥) → IsOnlySelector (stepping ss fs) → ⊥
not_only [] fs some h = h
not_only (s ∷ ss) [] some h = some refl
not_only (s ∷ ss) (f ∷ fs) some h = h

suc_zero : (n : ℕ) → (suc n == 0) ≡ false
suc_zero n = grind (arith, nat_tests)

pub only_test : (ss : List SelectorStep) (os : List OpenForm) → (ss ≡ [] → ⊥) → (b : Bool) → b ≡ (length os == 0)
    → MatchBool b (IsOnlySelector (stepping (step_views ss) (frames_onto os [])))
    (IsOnlySelector (stepping (step_views ss) (frames_onto os [])) → ⊥)
only_test [] os some b e = absurd (some refl)
only_test (s ∷ ss) [] some true e = tt
only_test (s ∷ ss) [] some false e = absurd (let f : false ≡ true = e in cc)
only_test (s ∷ ss) (o ∷ os) some true e = absurd (let f : true ≡ false = e ∙ suc_zero (length os) in cc)
only_test (s ∷ ss) (o ∷ os) some false e = λ h. not_only (step_views (s ∷ ss)) (frames_onto (o ∷ os) []) (frames_some os (frame_of o) []) h

-- a form that is pushed
pub form_held : (ss : List Step) (os now : List OpenForm) (o : OpenForm) (f : Frame) → now ≡ os ++ o ∷ [] → frame_of o ≡ f
    → stepping ss (frames_onto now []) ≡ stepping ss (f ∷ frames_onto os [])
form_held ss os now o f e g =
    ap (λ fs. stepping ss fs) (ap (λ x. frames_onto x []) e ∙ frames_pushed os o [] ∙ ap (λ x. x ∷ frames_onto os []) g)

-- steps that are there, by their test
pub not_empty : {A : Type 0} (t : List A) (b : Bool) → b ≡ (length t == 0) → b ≡ false → t ≡ [] → ⊥
not_empty t b e f g = absurd (let h : true ≡ false = sym (ap (λ x. length x == 0) g) ∙ sym e ∙ f in cc)

-- an answer that says yes, where the sign leads on
then_moved : (p q now : Place) (a : Sign) (result : Result Bool SelectorRefusal) → Moves p (sign a) q → IsThen q now result
    → IsMoved p a now result
then_moved p q now a (Ok true) m is = subst (λ x. Moves p (sign a) x) (sym is) m
then_moved p q now a (Ok false) m none = absurd none
then_moved p q now a (Err (Syntax at)) m none = absurd none
then_moved p q now a (Err (OutOfProfile at)) m none = absurd none
then_moved p q now a (Err NoMemory) m none = tt

frames_popped : (old os forms : List OpenForm) (o : OpenForm) (f : Frame) → old ≡ os ++ o ∷ [] → frame_of o ≡ f → forms ≡ os
    → frames_onto old [] ≡ f ∷ frames_onto forms []
frames_popped old os forms o f e g h =
    ap (λ x. frames_onto x []) e ∙ frames_pushed os o [] ∙ ap (λ x. x ∷ frames_onto os []) g ∙ ap (λ x. f ∷ frames_onto x []) (sym h)

-- the innermost form closes
pub form_closed : (form : SelectorForm) (ss : List SelectorStep) (old os forms : List OpenForm) (o : OpenForm) (outer steps : List SelectorStep)
    (done : List (List Step)) (step : Step) (now : Place) (result : Result Bool SelectorRefusal) → (ss ≡ [] → ⊥)
    → old ≡ os ++ o ∷ []
    → frame_of o ≡ frame form (step_views outer) done
    → step ≡ held form (done ++ step_views ss ∷ [])
    → steps ≡ outer
    → forms ≡ os
    → IsThen (stepping (step_views steps ++ step ∷ []) (frames_onto forms [])) now result
    → IsMoved (stepping (step_views ss) (frames_onto old [])) Close now result
form_closed form ss old os forms o outer steps done step now result some e g f same rest is =
    then_moved (stepping (step_views ss) (frames_onto old []))
    (stepping (step_views steps ++ step ∷ []) (frames_onto forms [])) now Close result
    (closed_moves form (step_views ss) (step_views outer) (step_views steps) done (frames_onto old []) (frames_onto forms []) step
    (some_steps ss some) (frames_popped old os forms o (frame form (step_views outer) done) e g rest) f (ap step_views same)) is

-- the innermost form goes on
pub form_continued : (form : SelectorForm) (ss : List SelectorStep) (old os forms : List OpenForm) (o longer : OpenForm)
    (outer steps : List SelectorStep)
    (done more : List (List Step)) (now : Place) (result : Result Bool SelectorRefusal) → (ss ≡ [] → ⊥)
    → IsListed form
    → old ≡ os ++ o ∷ []
    → frame_of o ≡ frame form (step_views outer) done
    → more ≡ done ++ step_views ss ∷ []
    → frame_of longer ≡ frame form (step_views outer) more
    → steps ≡ []
    → forms ≡ os
    → IsThen (stepping (step_views steps) (frame_of longer ∷ frames_onto forms [])) now result
    → IsMoved (stepping (step_views ss) (frames_onto old [])) Comma now result
form_continued form ss old os forms o longer outer steps done more now result some listed e g f h none rest is =
    then_moved (stepping (step_views ss) (frames_onto old []))
    (stepping [] (frame form (step_views outer) more ∷ frames_onto forms [])) now Comma
    result
    (continued_moves form (step_views ss) (step_views outer) done more (frames_onto old []) (frames_onto forms [])
    (some_steps ss some) listed
    (frames_popped old os forms o (frame form (step_views outer) done) e g rest) f)
    (subst (λ x. IsThen (stepping x (frame form (step_views outer) more ∷ frames_onto forms [])) now result) (ap step_views none)
    (subst (λ x. IsThen (stepping (step_views steps) (x ∷ frames_onto forms [])) now result) h is))

-- `:not(` goes on with no comma
pub not_continued : (ss : List SelectorStep) (old os : List OpenForm) (o : OpenForm) (outer : List SelectorStep) (n : Place)
    → old ≡ os ++ o ∷ []
    → frame_of o ≡ frame Not (step_views outer) []
    → Moves (stepping (step_views ss) (frames_onto old [])) (sign Comma) n
    → ⊥
not_continued ss old os o outer n e g m =
    no_comma_in_not (step_views ss) (step_views outer) (frames_onto old []) (frames_onto os []) n
    (frames_popped old os os o (frame Not (step_views outer) []) e g refl) m

pub form_entered : (ss : List Step) (steps : List SelectorStep) (os now : List OpenForm) (o : OpenForm) (f : Frame) → steps ≡ []
    → now ≡ os ++ o ∷ []
    → frame_of o ≡ f
    → stepping (step_views steps) (frames_onto now []) ≡ stepping [] (f ∷ frames_onto os [])
form_entered ss steps os now o f none e g = form_held (step_views steps) os now o f e g
    ∙ ap (λ x. stepping (step_views x) (f ∷ frames_onto os [])) none
