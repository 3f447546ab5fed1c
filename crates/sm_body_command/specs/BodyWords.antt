-- The form of the words of `body`.
use Rattle.std.specs.Prelude.{◌≡◌, ℕ, List, [], ◌∷◌, codes}
use Rattle.sm_bodies.specs.declared.form.BodyForm.{BodyForm}
use Rattle.sm_bodies.specs.declared.form.BodyForm.TheVariants.{Json, Cbor}

-- the word for the form of a side of a body
abbrev pub form_word : BodyForm → List ℕ
form_word Json = codes "json"
form_word Cbor = codes "cbor"

-- body MODELFILE SHAPE NEAR FAR
abbrev pub IsBodyForm : List (List ℕ) → List ℕ → List ℕ → BodyForm → BodyForm → Type 0
IsBodyForm words model shape near far = words ≡ codes "body" ∷ model ∷ shape ∷ form_word near ∷ form_word far ∷ []
