-- The place that the stack of the reader stands for: the steps of the innermost selector, and the forms around it.
use Rattle.std.specs.Prelude.{◌≡◌, ◌<◌, ℕ, ◌+◌, Bool, true, false, List, [], ◌∷◌, length, Result, Ok, Err}
use Rattle.sm_select.specs.SelectorText.{OtherForm}
use Rattle.sm_select.specs.View.{step_views, selector_views}
use Rattle.sm_select.specs.declared.parser_stack.Open.{Open}
use Rattle.sm_select.specs.declared.parser_stack.OpenForm.{OpenForm}
use Rattle.sm_select.specs.declared.parser_stack.OpenForm.TheVariants.{Is as an_is, Not as a_not, Test as a_test}
use Rattle.sm_select.specs.declared.refusal.SelectorRefusal.{SelectorRefusal}
use Rattle.sm_select.specs.declared.refusal.SelectorRefusal.TheVariants.{Syntax, OutOfProfile, NoMemory}
use Rattle.sm_select.specs.declared.tokens.SelectorForm.TheVariants.{Is, Not, Test}
use Rattle.sm_select.specs.steps.Places.{Frame, frame, Moves, sign, Place, stepping}
use Rattle.sm_select.specs.declared.tokens.Sign.{Sign}
use Rattle.sm_select.specs.declared.tokens.Sign.TheVariants.{Star, Greater, Smaller, Tilde, OpenPath, OpenNames}
use Rattle.sm_select.specs.steps.Signs.{stands}
use Rattle.sm_select.specs.steps.Standing.{Passes}
use Rattle.sm_select.specs.steps.Reader.{IsPlaced, Refuses}

abbrev pub frame_of : OpenForm → Frame
frame_of (an_is listed) = frame Is (step_views listed.before.items) (selector_views listed.done.items)
frame_of (a_not before) = frame Not (step_views before.items) []
frame_of (a_test listed) = frame Test (step_views listed.before.items) (selector_views listed.done.items)

-- the forms, the innermost first, before those of fs
abbrev pub frames_onto : List OpenForm → List Frame → List Frame
frames_onto [] fs = fs
frames_onto (o ∷ os) fs = frames_onto os (frame_of o ∷ fs)

abbrev pub place_of : Open → Place
place_of stack = stepping (step_views stack.steps.items) (frames_onto stack.forms.items [])

-- the same of an answer that says yes
abbrev pub IsThen : Place → Place → Result Bool SelectorRefusal → Type 0
IsThen q now (Ok true) = now ≡ q
IsThen q now (Ok false) = ⊥
IsThen q now (Err (Syntax at)) = ⊥
IsThen q now (Err (OutOfProfile at)) = ⊥
IsThen q now (Err NoMemory) = Unit {0}

-- one selector, and no form around it
abbrev pub IsOnlySelector : Place → Type 0
IsOnlySelector (stepping (s ∷ ss) []) = Unit {0}
IsOnlySelector p = ⊥

-- the sign was read, if it leads on from p; the stack stands for q now
abbrev pub IsMoved : Place → Sign → Place → Result Bool SelectorRefusal → Type 0
IsMoved p a q (Ok true) = Moves p (sign a) q
IsMoved p a q (Ok false) = (n : Place) → Moves p (sign a) n → ⊥
IsMoved p a q (Err (Syntax at)) = ⊥
IsMoved p a q (Err (OutOfProfile at)) = ⊥
IsMoved p a q (Err NoMemory) = Unit {0}

-- the stack stands for q now, or there is no memory
abbrev pub IsNow : {A : Type 0} → Place → Place → Result A SelectorRefusal → Type 0
IsNow q now (Ok x) = now ≡ q
IsNow q now (Err (Syntax at)) = ⊥
IsNow q now (Err (OutOfProfile at)) = ⊥
IsNow q now (Err NoMemory) = Unit {0}

-- the only refusal is that there is no memory
abbrev pub OnlyNoMemory : {A : Type 0} → Result A SelectorRefusal → Type 0
OnlyNoMemory (Ok x) = Unit {0}
OnlyNoMemory (Err (Syntax at)) = ⊥
OnlyNoMemory (Err (OutOfProfile at)) = ⊥
OnlyNoMemory (Err NoMemory) = Unit {0}

-- from p to q the text s was read, and less is left
abbrev pub StepsTo : {A : Type 0} → ℕ → Place → List ℕ → List ℕ → Place → Result A SelectorRefusal → Type 0
StepsTo len p s r q (Ok x) = Passes p s q r × (length r < length s)
StepsTo len p s r q (Err e) = Refuses len p s e

-- the refusal of what stands where a step may come
abbrev pub IsRefusedStep : ℕ → List ℕ → SelectorRefusal → Type 0
IsRefusedStep len rest (Syntax at) = (OtherForm rest → ⊥) × IsPlaced len rest (Syntax at)
IsRefusedStep len rest (OutOfProfile at) = OtherForm rest × (at + length rest ≡ len)
IsRefusedStep len rest NoMemory = ⊥

-- none of the signs that are a step by themselves, or begin an attribute or names
abbrev pub NoPlainSign : List ℕ → Type 0
NoPlainSign s =
    (stands Star s ≡ false) × (stands Greater s ≡ false) × (stands Smaller s ≡ false) × (stands Tilde s ≡ false)
    × (stands OpenPath s ≡ false)
    × (stands OpenNames s ≡ false)
