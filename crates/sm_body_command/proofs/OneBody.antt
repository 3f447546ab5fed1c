-- Files, an input and a store come to one answer of the command `body`: at each decision two answers go the same way.
use Rattle.std.proofs.Common.{◌≡◌, ◌<◌, ℕ, List, length, sym, ap, subst, ◌∙◌, arith}
use Rattle.sm_shapes.specs.Places.{root_place}
use Rattle.sm_codec.specs.Codec.{InTable}
use Rattle.sm_codec.specs.Defaults.{filled}
use Rattle.sm_codec.specs.FilledLaws.{IsFilled}
use Rattle.sm_bodies.specs.TextAnswers.{TextAnswer, TextAnswers}
use Rattle.sm_bodies.specs.TextLaws.{OneTextAnswer}
use Rattle.sm_bodies.specs.declared.form.BodyForm.{BodyForm}
use Rattle.sm_asked_shape.specs.asked.Answer.{Came, came}
use Rattle.sm_asked_shape.specs.asked.Answer.InputUse.{untouched, to_its_end}
use Rattle.sm_asked_shape.specs.asked.Limits.{body_limit}
use Rattle.sm_asked_shape.specs.asked.Stages.{Told, IsInput}
use Rattle.sm_asked_shape.proofs.asked.ToldAll.{IsToldWhole}
use Rattle.sm_asked_shape.specs.ShapeStages.{TableMade, table_of}
use Rattle.sm_asked_shape.proofs.OneShape.{shape_apart, shape_same, tables_same}
use Rattle.sm_asked_shape.proofs.TablesMade.{number_within, is_filled}
use Rattle.sm_body_command.specs.Body.{BodySays, printed}
use Rattle.sm_body_command.specs.Body.BodySays.{not_served, long_input, by_text}
use Rattle.sm_body_command.specs.BodyStages.{InputRead}

module _ (texts : OneTextAnswer) (t : Told) (whole : IsToldWhole t) (name shape : List ℕ) where
  -- an input within its limit isn't longer
  not_beyond : (h : InputRead t name shape) (input : List ℕ) → IsInput t.input input → body_limit < length input → ⊥
  not_beyond h input is long =
      omega (arith, subst (λ x. body_limit < length x) (whole.inputs input h.bytes is h.is_input) long, h.within)

  -- a body has one answer
  text_same : (near far : BodyForm) (h i : InputRead t name shape) (a b : TextAnswer)
      → TextAnswers near far (table_of t name shape h.served.table) t.test (root_place h.served.table.one.shape) h.bytes a
      → TextAnswers near far (table_of t name shape i.served.table) t.test (root_place i.served.table.one.shape) i.bytes b → a ≡ b
  text_same near far h i a b says says1 =
      let k = i.served.table in
      let same = tables_same t whole name shape h.served.table k in
      let ready : IsFilled (filled k.one.table t.test) t.test =
      is_filled k.there.loaded.graph shape t.test t.store k.now k.one k.compiled in
      texts near far (filled k.one.table t.test) t.test (root_place k.one.shape) i.bytes a b ready.shaped ready.pass
      (within k)
      (subst (λ x. TextAnswers near far (filled k.one.table t.test) t.test (root_place k.one.shape) x a)
      (whole.inputs h.bytes i.bytes h.is_input i.is_input)
      (subst (λ x. TextAnswers near far (filled k.one.table t.test) t.test (root_place x) h.bytes a) same.1
      (subst (λ x. TextAnswers near far (filled x t.test) t.test (root_place h.served.table.one.shape) h.bytes a) same.0 says))) says1
    where
      within : (k : TableMade t name shape) → InTable (filled k.one.table t.test) (root_place k.one.shape)
      within k = number_within k.there.loaded.graph shape t.test t.store k.now k.one k.compiled

  pub body_same : (near far : BodyForm) (c d : Came) → BodySays t name shape near far c → BodySays t name shape near far d → c ≡ d
  body_same near far c d (not_served a h e) (not_served a1 h1 e1) =
      e ∙ ap (came untouched) (shape_same t whole name shape a a1 h h1) ∙ sym e1
  body_same near far c d (not_served a h e) (long_input served1 input1 is1 long1 e1) = absurd (shape_apart t whole name shape a h served1)
  body_same near far c d (not_served a h e) (by_text input1 a1 says1 e1) = absurd (shape_apart t whole name shape a h input1.served)
  body_same near far c d (long_input served input is long e) (not_served a1 h1 e1) = absurd (shape_apart t whole name shape a1 h1 served)
  body_same near far c d (long_input served input is long e) (long_input served1 input1 is1 long1 e1) = e ∙ sym e1
  body_same near far c d (long_input served input is long e) (by_text input1 a1 says1 e1) = absurd (not_beyond input1 input is long)
  body_same near far c d (by_text input a says e) (not_served a1 h1 e1) = absurd (shape_apart t whole name shape a1 h1 input.served)
  body_same near far c d (by_text input a says e) (long_input served1 input1 is1 long1 e1) = absurd (not_beyond input input1 is1 long1)
  body_same near far c d (by_text input a says e) (by_text input1 a1 says1 e1) =
      e ∙ ap (λ x. came to_its_end (printed x)) (text_same near far input input1 a a1 says says1) ∙ sym e1
