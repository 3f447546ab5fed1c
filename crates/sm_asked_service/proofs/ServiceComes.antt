-- What a command over a service comes to where its answer stands before all that it reads of its input.
use Rattle.std.proofs.Common.{◌≡◌, inl, None, refl}
use Rattle.sm_io.specs.Causes.{Rose}
use Rattle.sm_io.specs.Seen.{FilesSeen, Stream}
use Rattle.sm_shapes.specs.Fitting.{Test}
use Rattle.sm_compile.specs.Answers.{StoreSeen}
use Rattle.sm_asked_shape.specs.asked.Answer.{Answer, came}
use Rattle.sm_asked_shape.specs.asked.Answer.InputUse.{untouched}
use Rattle.sm_asked_shape.specs.asked.CommandAsked.{Answers, CommandAsked, FileFails, StopsShort, told_by}
use Rattle.sm_asked_shape.specs.asked.Comes.{StepStops}
use Rattle.sm_asked_shape.specs.asked.Outside.{InputsSeen, inputs_seen}
use Rattle.sm_asked_shape.specs.asked.Stages.{Told}
use Rattle.sm_asked_shape.specs.asked.declared.stop.CommandStop.{CommandStop}
use Rattle.sm_asked_shape.proofs.asked.Stops.{stops_map}
use Rattle.sm_asked_service.specs.LoadsService.{StandsBefore, StopsBefore}

-- whatever the command asks, if it says what is said: the input is untouched, and no file is written
module _ (files files1 : FilesSeen) (input : Stream) (test : Test) (store store1 : StoreSeen) (asked : CommandAsked)
    (Says : Told → Answer → Type 0) (held : files1.held ≡ files.held)
    (says : (t : Told) (a : Answer) → Says t a → asked.says t (came untouched a)) where
  abbrev before : InputsSeen
  before = inputs_seen files input test store

  abbrev after : InputsSeen
  after = inputs_seen files1 input test store1

  stands_answer : (a : Answer) → StandsBefore Says files test store store1 a
      → (answers : Answers before after asked a) × (answers.written ≡ None)
  stands_answer a is = (
    record {
      taken = untouched;
      written = None;
      pattern = is.pattern;
      by = is.by;
      only = is.only;
      says = says (told_by before is.pattern) a (is.says input.bytes);
      left = refl;
    },
    refl,
  )

  pub stands_before : (stop : CommandStop) → StopsBefore Says files files1 test store store1 stop
      → StepStops (λ a. (answers : Answers before after asked a) × (answers.written ≡ None)) (FileFails before after)
      (StopsShort before after asked) stop
  stands_before stop h =
      stops_map (StandsBefore Says files test store store1) (λ a. (answers : Answers before after asked a) × (answers.written ≡ None))
      (Rose files.read_faults files1.read_faults × (store1.refusals ≡ store.refusals)) (FileFails before after) (Unit {0})
      (StopsShort before after asked) stop stands_answer
      (λ p. record { rose = p.0; held = held; input = refl; refusals = p.1 }) (λ short. inl refl) h
