-- What the steps of the command `body` come to.
use Rattle.std.specs.Prelude.{◌≡◌, ℕ, ◌<◌, ◌≤◌, List, Result, length}
use Rattle.std.specs.Global.{Vec}
use Rattle.std.specs.Io.KnownBytes.{IsAtEnd}
use Rattle.sm_io.specs.Causes.{Rose}
use Rattle.sm_io.specs.Seen.{Stream}
use Rattle.sm_shapes.specs.Fitting.{Test}
use Rattle.sm_shapes.specs.Places.{root_place}
use Rattle.sm_shapes.specs.TableData.{TableData}
use Rattle.sm_bodies.specs.TextAnswers.{TextAnswer, TextAnswers}
use Rattle.sm_bodies.specs.declared.form.BodyForm.{BodyForm}
use Rattle.sm_asked_shape.specs.asked.Answer.{Answer, past}
use Rattle.sm_asked_shape.specs.asked.Comes.{StepComesTo}
use Rattle.sm_asked_shape.specs.asked.Limits.{body_limit}
use Rattle.sm_asked_shape.specs.asked.Lines.{body_limit_line}
use Rattle.sm_asked_shape.specs.asked.Stages.{IsInput}
use Rattle.sm_asked_shape.specs.asked.declared.stop.CommandStop.{CommandStop}
use Rattle.sm_body_command.specs.Body.{printed}

-- what a body comes to, as it is printed
abbrev pub PrintsText : BodyForm → BodyForm → TableData → Test → ℕ → List ℕ → Answer → Type 0
PrintsText near far t test s body a = (said : TextAnswer) × TextAnswers near far t test (root_place s) body said × (a ≡ printed said)

-- what the input comes to for the shape s of a table, and what is left of it
pub data InputSays (near far : BodyForm) (t : TableData) (test : Test) (s : ℕ) (input rest : Stream) (a : Answer) : Type 0 where
  beyond : (body : List ℕ) → IsInput input.bytes body → body_limit < length body → a ≡ past body_limit_line
      → InputSays near far t test s input rest a
  whole : (body : List ℕ) → IsInput input.bytes body → length body ≤ body_limit → IsAtEnd rest.bytes → PrintsText near far t test s body a
      → InputSays near far t test s input rest a

abbrev pub InputComesTo : BodyForm → BodyForm → TableData → Test → ℕ → Stream → Stream → Result (Vec ℕ) CommandStop → Type 0
InputComesTo near far t test s input rest result =
    StepComesTo (InputSays near far t test s input rest) (Rose input.faults rest.faults) (Unit {0}) result
