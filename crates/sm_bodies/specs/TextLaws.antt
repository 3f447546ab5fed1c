-- That a body has one answer, and some answer, between every two sides: by every table in order and every test that its defaults pass.
use Rattle.std.specs.Prelude.{◌≡◌, ℕ, List}
use Rattle.sm_shapes.specs.Fitting.{Test}
use Rattle.sm_shapes.specs.InOrder.{Shaped, DefaultsPass}
use Rattle.sm_shapes.specs.Places.{Place}
use Rattle.sm_shapes.specs.TableData.{TableData}
use Rattle.sm_codec.specs.Codec.{InTable}
use Rattle.sm_bodies.specs.TextAnswers.{TextAnswer, TextAnswers}
use Rattle.sm_bodies.specs.declared.form.BodyForm.{BodyForm}

-- a law: the bytes determine the answer. So each answer comes exactly where its reason is
abbrev pub OneTextAnswer : Type 0
OneTextAnswer =
    (near far : BodyForm) (t : TableData) (test : Test) (p : Place) (body : List ℕ) (a b : TextAnswer) → Shaped t → DefaultsPass t test
    → InTable t p → TextAnswers near far t test p body a → TextAnswers near far t test p body b → a ≡ b

-- a law: no bytes are without an answer: it can't be that each is denied
abbrev pub SomeTextAnswer : Type 0
SomeTextAnswer =
    (near far : BodyForm) (t : TableData) (test : Test) (p : Place) (body : List ℕ) → Shaped t → DefaultsPass t test → InTable t p
    → ((a : TextAnswer) → TextAnswers near far t test p body a → ⊥) → ⊥
