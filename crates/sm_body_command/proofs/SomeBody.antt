-- A file that is there, an input and a store come to some answer of the command `body`. Where a case can't be decided,
-- each of its two sides is denied in turn.
use Rattle.std.proofs.Common.{ℕ, inl, inr, List, [], ◌∷◌, length, sym, subst, refl}
use Rattle.std.proofs.lemmas.Bool.{cases_lt}
use Rattle.sm_io.specs.Files.{Folder}
use Rattle.sm_shapes.specs.Places.{root_place}
use Rattle.sm_codec.specs.Codec.{InTable}
use Rattle.sm_codec.specs.FilledLaws.{IsFilled}
use Rattle.sm_bodies.specs.TextLaws.{SomeTextAnswer}
use Rattle.sm_bodies.specs.declared.form.BodyForm.{BodyForm}
use Rattle.sm_compile.specs.Laws.{SomeTable}
use Rattle.sm_asked_shape.specs.load.Laws.{SomeLoad, SoundModels}
use Rattle.sm_asked_shape.specs.asked.Answer.{Came, came, past}
use Rattle.sm_asked_shape.specs.asked.Answer.InputUse.{untouched, to_its_end, past_its_limit}
use Rattle.sm_asked_shape.specs.asked.AskedLaws.{AreThere, TellsAll}
use Rattle.sm_asked_shape.specs.asked.Limits.{body_limit}
use Rattle.sm_asked_shape.specs.asked.Lines.{body_limit_line}
use Rattle.sm_asked_shape.specs.asked.Stages.{Told, IsInput}
use Rattle.sm_asked_shape.specs.ShapeStages.{ShapeServed, table_of}
use Rattle.sm_asked_shape.proofs.SomeShape.{shape_answered}
use Rattle.sm_asked_shape.proofs.TablesMade.{number_within, is_filled}
use Rattle.sm_body_command.specs.Body.{BodySays, printed}
use Rattle.sm_body_command.specs.Body.BodySays.{not_served, long_input, by_text}

module _ (texts : SomeTextAnswer) (t : Told) (name shape : List ℕ) (near far : BodyForm)
    (none : (c : Came) → BodySays t name shape near far c → ⊥) where
  -- the input of a shape that is served
  input_answered : (input : List ℕ) → IsInput t.input input → ShapeServed t name shape → ⊥
  input_answered input is h = elim (cases_lt body_limit (length input)) [
    | inl long ↦ none (came past_its_limit (past body_limit_line)) (long_input h input is long refl)
    | inr within ↦ texts near far (table_of t name shape h.table) t.test (root_place h.table.one.shape) input ready.shaped ready.pass inside
        (λ a says. none (came to_its_end (printed a))
        (by_text (record { served = h; bytes = input; is_input = is; within = within }) a says refl))
  ]
    where
      ready : IsFilled (table_of t name shape h.table) t.test
      ready = is_filled h.table.there.loaded.graph shape t.test t.store h.table.now h.table.one h.table.compiled

      inside : InTable (table_of t name shape h.table) (root_place h.table.one.shape)
      inside = number_within h.table.there.loaded.graph shape t.test t.store h.table.now h.table.one h.table.compiled

pub body_answered : SomeTextAnswer → SomeTable → SomeLoad → SoundModels → (t : Told) (folder : Folder) (input : List ℕ)
    → TellsAll t folder input
    → (name shape : List ℕ) (near far : BodyForm)
    → AreThere folder (name ∷ [])
    → ((c : Came) → BodySays t name shape near far c → ⊥) → ⊥
body_answered texts tables loads models t folder input all name shape near far there none =
    shape_answered tables loads models t folder all.files name shape there (λ a says. none (came untouched a) (not_served a says refl))
    (λ served. input_answered texts t name shape near far none input (subst (λ x. IsInput x input) (sym all.input) refl) served)
