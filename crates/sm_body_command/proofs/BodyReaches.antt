-- The command `body` leaves the input untouched, or reaches it; and it writes no file.
use Rattle.std.proofs.Common.{◌≡◌, ◌⊎◌, ℕ, List, None, inl, inr, ap, sym, ◌∙◌, refl}
use Rattle.sm_bodies.specs.declared.form.BodyForm.{BodyForm}
use Rattle.sm_asked_shape.specs.asked.Answer.{Came}
use Rattle.sm_asked_shape.specs.asked.Answer.InputUse.{untouched}
use Rattle.sm_asked_shape.specs.asked.AskedLaws.{ReachesInput, WritesAsNamed}
use Rattle.sm_asked_shape.specs.asked.Stages.{Told}
use Rattle.sm_asked_shape.proofs.asked.Answered.{none_is_some}
use Rattle.sm_asked_shape.specs.ShapeStages.{ShapeServed}
use Rattle.sm_body_command.specs.Body.{BodySays, body_asked}
use Rattle.sm_body_command.specs.Body.BodySays.{not_served, long_input, by_text}

says_reaches : (t : Told) (model shape : List ℕ) (near far : BodyForm) (c : Came) → BodySays t model shape near far c
    → (c.input ≡ untouched) ⊎ ShapeServed t model shape
says_reaches t model shape near far c (not_served a h e) = inl (ap (λ (x : Came). x.input) e)
says_reaches t model shape near far c (long_input served input is long e) = inr served
says_reaches t model shape near far c (by_text input a says e) = inr input.served

pub body_reaches : (model shape : List ℕ) (near far : BodyForm) → ReachesInput (body_asked model shape near far)
body_reaches model shape near far t = (λ c says. says_reaches t model shape near far c says, λ served. refl)

-- it writes no file
writes_none : (t : Told) (model shape : List ℕ) (near far : BodyForm) (c : Came) → BodySays t model shape near far c → c.written ≡ None
writes_none t model shape near far c (not_served a h e) = ap (λ (x : Came). x.written) e
writes_none t model shape near far c (long_input served input is long e) = ap (λ (x : Came). x.written) e
writes_none t model shape near far c (by_text input a says e) = ap (λ (x : Came). x.written) e

pub body_writes : (model shape : List ℕ) (near far : BodyForm) → WritesAsNamed (body_asked model shape near far)
body_writes model shape near far t c file says is = none_is_some file (sym (writes_none t model shape near far c says) ∙ is)
