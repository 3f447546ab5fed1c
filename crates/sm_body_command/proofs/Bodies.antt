-- What the command `body` comes to, from what its shape and its input do.
use Rattle.std.proofs.Common.{◌≡◌, ◌<◌, ◌≤◌, ◌+◌, ◌++◌, ℕ, List, Option, Some, None, Err, inr, ap, subst, ◌∙◌}
use Rattle.std.proofs.Common.{refl, arith, append-nil}
use Rattle.std.specs.Prelude.{IfSome, length, Result, Ok}
use Rattle.std.specs.Global.{Vec}
use Rattle.sm_io.specs.Causes.{Rose}
use Rattle.sm_io.specs.Reading.{Empties}
use Rattle.sm_io.specs.Seen.{FilesSeen, Stream}
use Rattle.sm_shapes.specs.Fitting.{Test}
use Rattle.sm_shapes.specs.Places.{root_place}
use Rattle.sm_shapes.specs.TableData.{TableData}
use Rattle.sm_shapes.specs.TableView.{table_data}
use Rattle.sm_bodies.specs.TextAnswers.{TextAnswer, TextAnswers}
use Rattle.sm_bodies.specs.declared.form.BodyForm.{BodyForm}
use Rattle.sm_compile.specs.Answers.{StoreSeen}
use Rattle.sm_asked_shape.specs.asked.Answer.{Answer, came}
use Rattle.sm_asked_shape.specs.asked.Answer.InputUse.{to_its_end, past_its_limit}
use Rattle.sm_asked_shape.specs.asked.CommandAsked.{CommandAsked, Answers, ReadFails, StopsShort, told_by}
use Rattle.sm_asked_shape.specs.asked.Comes.{StepComesTo, EndsWithLimit, CommandComesTo}
use Rattle.sm_asked_shape.specs.asked.Limits.{body_limit}
use Rattle.sm_asked_shape.specs.asked.Lines.{body_limit_line}
use Rattle.sm_asked_shape.specs.asked.Outside.{InputsSeen, inputs_seen}
use Rattle.sm_asked_shape.specs.asked.Stages.{Told}
use Rattle.sm_asked_shape.specs.asked.declared.stop.CommandStop.{CommandStop}
use Rattle.sm_asked_shape.proofs.asked.Answered.{none_is_some}
use Rattle.sm_asked_shape.proofs.asked.LongFiles.{long_list}
use Rattle.sm_asked_shape.proofs.asked.Stops.{limit_stops, comes_map}
use Rattle.sm_asked_shape.specs.LoadsShape.{IsLoadedShape, LoadsShape}
use Rattle.sm_asked_shape.specs.ShapeStages.{ShapeServed, table_of}
use Rattle.sm_asked_shape.specs.declared.shape.LoadedShape.{LoadedShape}
use Rattle.sm_asked_shape.proofs.ShapeComes.{shape_stops}
use Rattle.sm_body_command.specs.Body.{body_asked, printed}
use Rattle.sm_body_command.specs.Body.BodySays.{not_served, long_input, by_text}
use Rattle.sm_body_command.specs.steps.BodySteps.{PrintsText, InputSays, InputComesTo}
use Rattle.sm_body_command.specs.steps.BodySteps.InputSays.{beyond, whole}

-- the whole input was read: a text that answers, and one that is too long
longer_input : (left : Option (List ℕ)) (limit : ℕ) → IfSome left (λ bytes. limit < length bytes)
    → (input : List ℕ) × IfSome left (λ bytes. bytes ≡ input) × (limit < length input)
longer_input None limit h = let w = long_list (limit + 1) in (w.0, tt, omega (arith, w.1))
longer_input (Some bytes) limit h = (bytes, refl, h)

emptied : (left rest : Option (List ℕ)) (body : List ℕ) → Empties left rest body → IfSome left (λ bytes. bytes ≡ body)
emptied None rest body h = tt
emptied (Some xs) None body h = absurd h.0
emptied (Some xs) (Some ys) body h = h.0 ∙ ap (λ r. body ++ r) h.1 ∙ append-nil body

pub input_comes : (near far : BodyForm) (t : TableData) (test : Test) (s : ℕ) (input rest : Stream) (body : List ℕ)
    (result : Result (Vec ℕ) CommandStop)
    → Empties input.bytes rest.bytes body → length body ≤ body_limit → StepComesTo (PrintsText near far t test s body) ⊥ (Unit {0}) result
    → InputComesTo near far t test s input rest result
input_comes near far t test s input rest body result empties within h =
    comes_map (PrintsText near far t test s body) (InputSays near far t test s input rest) ⊥ (Rose input.faults rest.faults) (Unit {0})
    (Unit {0}) result (λ a says. whole body (emptied input.bytes rest.bytes body empties) within empties.1 says) (λ x. absurd x) (λ x. x) h

pub input_past : (near far : BodyForm) (t : TableData) (test : Test) (s : ℕ) (input rest : Stream) (stop : CommandStop)
    → IfSome input.bytes (λ body. body_limit < length body) → EndsWithLimit body_limit_line stop
    → InputComesTo near far t test s input rest (Err stop)
input_past near far t test s input rest stop long ends = let w = longer_input input.bytes body_limit long in
    limit_stops (InputSays near far t test s input rest) (Rose input.faults rest.faults) (Unit {0}) body_limit_line stop
    (beyond w.0 w.1 w.2 refl) tt ends

-- a body, by its answer
pub text_comes : (near far : BodyForm) (t : TableData) (test : Test) (s : ℕ) (body : List ℕ) (said : TextAnswer)
    (result : Result (Vec ℕ) CommandStop)
    → TextAnswers near far t test (root_place s) body said → StepComesTo (λ a. a ≡ printed said) ⊥ (Unit {0}) result
    → StepComesTo (PrintsText near far t test s body) ⊥ (Unit {0}) result
text_comes near far t test s body said result answers h =
    comes_map (λ a. a ≡ printed said) (PrintsText near far t test s body) ⊥ ⊥ (Unit {0}) (Unit {0}) result (λ a is. (said, answers, is))
    (λ x. x) (λ x. x) h

-- the whole command, by what stands before its shape
module _ (files files1 : FilesSeen) (test : Test) (store store1 : StoreSeen) (name shape : List ℕ) (near far : BodyForm) where
  abbrev before : Stream → InputsSeen
  before input = inputs_seen files input test store

  abbrev after : Stream → InputsSeen
  after rest = inputs_seen files1 rest test store1

  abbrev command : CommandAsked
  command = body_asked name shape near far

  pub body_stops : (input : Stream) (stop : CommandStop) → files1.held ≡ files.held
      → LoadsShape files files1 test store store1 name shape (Err stop) → CommandComesTo (before input) (after input) command (Err stop)
  body_stops input stop held h =
      shape_stops files files1 input test store store1 name shape command stop held (λ t a says. not_served a says refl) h

  -- and by its input
  abbrev told_now : Stream → Told
  told_now input = told_by (before input) None

  by_answer : (input rest : Stream) (served : ShapeServed (told_now input) name shape) (a : Answer) → store1.refusals ≡ store.refusals
      → InputSays near far (table_of (told_now input) name shape served.table) test served.table.one.shape input rest a
      → Answers (before input) (after rest) command a
  by_answer input rest served a count (beyond body is long e) = record {
    taken = past_its_limit;
    written = None;
    pattern = None;
    by = count;
    only = λ u e1. none_is_some u e1;
    says = long_input served body is long (ap (came past_its_limit) e);
    left = tt;
  }
  by_answer input rest served a count (whole body is within at_end (said, says, e)) = record {
    taken = to_its_end;
    written = None;
    pattern = None;
    by = count;
    only = λ u e1. none_is_some u e1;
    says =
        by_text (record { served = served; bytes = body; is_input = is; within = within }) said says
        (ap (came to_its_end) e);
    left = at_end;
  }

  pub body_by : (store2 : StoreSeen) (input rest : Stream) (one : LoadedShape) (result : Result (Vec ℕ) CommandStop)
      → LoadsShape files files1 test store store2 name shape (Ok one) → store1.refusals ≡ store2.refusals
      → InputComesTo near far (table_data one.table) test one.shape input rest result
      → CommandComesTo (before input) (after rest) command result
  body_by store2 input rest one result loads same comes =
      let loaded : IsLoadedShape (told_now input) name shape one = loads.1 input.bytes in
      let served = loaded.served in
      comes_map (InputSays near far (table_data one.table) test one.shape input rest) (Answers (before input) (after rest) command)
      (Rose input.faults rest.faults) (ReadFails (before input) (after rest) command)
      (Unit {0}) (StopsShort (before input) (after rest) command) result
      (λ a says. by_answer input rest served a (same ∙ loads.0)
      (subst (λ s. InputSays near far (table_of (told_now input) name shape served.table) test s input rest a) loaded.number
      (subst (λ t. InputSays near far t test one.shape input rest a) loaded.table says)))
      (λ rose. inr (record { rose = rose; reached = served; refusals = same ∙ loads.0 }))
      (λ short. inr (None, same ∙ loads.0, served))
      comes
