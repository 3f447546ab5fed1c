-- The words of `body` have one reading.
use Rattle.std.proofs.Common.{◌≡◌, ℕ, Bool, cond, List, sym, ap, subst, ◌∙◌, refl, codes, bytes_eq}
use Rattle.sm_bodies.specs.declared.form.BodyForm.{BodyForm}
use Rattle.sm_bodies.specs.declared.form.BodyForm.TheVariants.{Json, Cbor}
use Rattle.sm_body_command.specs.BodyWords.{IsBodyForm, form_word}

-- the words for the forms of a body differ
abbrev says_json : List ℕ → Bool
says_json w = bytes_eq w (codes "json")

side_same : (a b : BodyForm) → form_word a ≡ form_word b → a ≡ b
side_same Json Json e = refl
side_same Json Cbor e = absurd (subst (λ b. cond b ⊥ (Unit {0})) (sym (ap says_json e)) tt)
side_same Cbor Json e = absurd (subst (λ b. cond b ⊥ (Unit {0})) (ap says_json e) tt)
side_same Cbor Cbor e = refl

pub record OneBodyWords (model shape model1 shape1 : List ℕ) (near far near1 far1 : BodyForm) : Type 0 where
  pub same_model : model ≡ model1
  pub same_shape : shape ≡ shape1
  pub same_near : near ≡ near1
  pub same_far : far ≡ far1

pub body_words_same : (words : List (List ℕ)) (model shape model1 shape1 : List ℕ) (near far near1 far1 : BodyForm)
    → IsBodyForm words model shape near far → IsBodyForm words model1 shape1 near1 far1
    → OneBodyWords model shape model1 shape1 near far near1 far1
body_words_same words model shape model1 shape1 near far near1 far1 h i =
    let e = sym h ∙ i in
    record { same_model = cc; same_shape = cc; same_near = side_same near near1 (cc); same_far = side_same far far1 (cc) }
