-- What the command `body` comes to, over bytes alone. The decisions stand in their order: those of the shape, which are the model file, the
-- shape, its patterns, and whether its values are served; then the input's length, its syntax, its faults, and a leaf that the far side
-- doesn't carry.
use Rattle.std.specs.Prelude.{◌≡◌, ℕ, ◌<◌, true, false, List, [], ◌∷◌, length}
use Rattle.sm_shapes.specs.Places.{root_place}
use Rattle.sm_bodies.specs.TextAnswers.{TextAnswer, TextAnswers, the_text, the_refusal, the_fault}
use Rattle.sm_bodies.specs.declared.form.BodyForm.{BodyForm}
use Rattle.sm_lines.specs.Lines.{fault_line, syntax_line}
use Rattle.sm_asked_shape.specs.asked.Answer.{Answer, Came, done, refused, past, came}
use Rattle.sm_asked_shape.specs.asked.Answer.InputUse.{untouched, to_its_end, past_its_limit}
use Rattle.sm_asked_shape.specs.asked.CommandAsked.{CommandAsked}
use Rattle.sm_asked_shape.specs.asked.Limits.{body_limit}
use Rattle.sm_asked_shape.specs.asked.Lines.{body_limit_line}
use Rattle.sm_asked_shape.specs.asked.Stages.{Told, IsInput}
use Rattle.sm_asked_shape.specs.ShapeAnswers.{ShapeAnswers}
use Rattle.sm_asked_shape.specs.ShapeStages.{ShapeServed, table_of}
use Rattle.sm_body_command.specs.BodyStages.{InputRead}

-- what is printed for what a body comes to
abbrev pub printed : TextAnswer → Answer
printed (the_text text) = done text
printed (the_refusal refusal) = refused (syntax_line refusal)
printed (the_fault path kind) = refused (fault_line path kind)

-- what the command comes to, in this order
pub data BodySays (t : Told) (name shape : List ℕ) (near far : BodyForm) (c : Came) : Type 0 where
  not_served : (a : Answer) → ShapeAnswers t name shape a → c ≡ came untouched a → BodySays t name shape near far c
  long_input : (served : ShapeServed t name shape) → (input : List ℕ) → IsInput t.input input → body_limit < length input
      → c ≡ came past_its_limit (past body_limit_line) → BodySays t name shape near far c
  by_text : (input : InputRead t name shape) → (a : TextAnswer)
      → TextAnswers near far (table_of t name shape input.served.table) t.test (root_place input.served.table.one.shape) input.bytes a
      → c ≡ came to_its_end (printed a) → BodySays t name shape near far c

abbrev pub body_asked : List ℕ → List ℕ → BodyForm → BodyForm → CommandAsked
body_asked model shape near far = record {
  reads = model ∷ [];
  writes = [];
  touches_input = true;
  streams = false;
  says = λ t c. BodySays t model shape near far c;
  reaches = λ t. ShapeServed t model shape;
}
