-- From what was printed of an answer that leaves files as they are, or of why there is none, to how what is asked ends.
use Rattle.std.proofs.Common.{◌≡◌, ℕ, inl, inr, List, Option, Some, None, Result, Ok, Err, sym, subst, refl}
use Rattle.std.specs.Global.{Vec}
use Rattle.std.specs.Io.KnownBytes.{Keeps}
use Rattle.sm_io.specs.Seen.{Stream}
use Rattle.sm_asked.specs.Answer.{Answer, FileWritten, came_writing}
use Rattle.sm_asked.specs.AskedLaws.{ReachesInput}
use Rattle.sm_asked.specs.CommandAsked.{Answers, CommandAsked, LeavesInput, StopsShort, told_by}
use Rattle.sm_asked.specs.Comes.{StepComesTo, StepStops}
use Rattle.sm_asked.specs.Outside.{InputsSeen, Outside}
use Rattle.sm_asked.specs.declared.status.Status.{Status}
use Rattle.sm_asked.specs.declared.status.Status.TheVariants.{Done, Refused, Pattern, Limit}
use Rattle.sm_asked.specs.declared.stop.CommandStop.{CommandStop}
use Rattle.sm_asked.specs.declared.stop.CommandStop.TheVariants.{Refused as is_refused, Pattern as is_pattern, Limit as is_past}
use Rattle.sm_asked.specs.declared.stop.CommandStop.TheVariants.{ReadFault as is_fault, NoMemory as is_short}
use Rattle.sm_asked_ends.specs.AskedEnds.{AnswersFor, AskedEnds, IsWritten, IsWrittenInPart, ReadEnds}
use Rattle.sm_asked_ends.specs.Printing.{PrintsResult, PrintsStop, PutEnds}

-- an answer leaves the input as it was, or stands behind no other
pub comes_short : (before after : InputsSeen) (asked : CommandAsked) (a : Answer) → ReachesInput asked → Answers before after asked a
    → StopsShort before after asked
comes_short before after asked a reach h = elim ((reach (told_by before h.pattern)).0 (came_writing h.taken a h.written) h.says) [
  | inl e ↦ inl (subst (λ x. LeavesInput x before.input after.input) e h.left)
  | inr reached ↦ inr (h.pattern, h.by, reached)
]

-- an answer that writes no file
abbrev pub AnswersUnwritten : InputsSeen → InputsSeen → CommandAsked → Answer → Type 0
AnswersUnwritten before after asked a = (answers : Answers before after asked a) × (answers.written ≡ None)

-- an output that is as it was keeps its bytes
keeps_all : (before after : Stream) → after ≡ before → Keeps before.bytes after.bytes
keeps_all before after e = subst (λ x. Keeps before.bytes x.bytes) (sym e) (kept before.bytes)
  where
    kept : (bytes : Option (List ℕ)) → Keeps bytes bytes
    kept None = tt
    kept (Some xs) = refl

module _ (before after : Outside) (asked : CommandAsked) (reach : ReachesInput asked)
    (held : after.inputs.files.held ≡ before.inputs.files.held) where
  none_written : (file : Option FileWritten) → file ≡ None → IsWritten before.inputs.files.held after.inputs.files.held file
  none_written file e = subst (IsWritten before.inputs.files.held after.inputs.files.held) (sym e) held

  none_in_part : (file : Option FileWritten) → file ≡ None → IsWrittenInPart before.inputs.files.held after.inputs.files.held file
  none_in_part file e = subst (IsWrittenInPart before.inputs.files.held after.inputs.files.held) (sym e) held

  -- by what the put came to
  put_ends : (wanted : Status) (text : List ℕ) (status : Status)
      → AnswersUnwritten before.inputs after.inputs asked (record { status = wanted; text = text })
      → (AnswersFor before after wanted asked → AskedEnds before after asked wanted)
      → PutEnds before.output after.output text wanted status → AskedEnds before after asked status
  put_ends wanted text status (answers, none) ends (inl (e, put)) =
      subst (AskedEnds before after asked) (sym e) (ends (inl (text, answers, put, none_written answers.written none)))
  put_ends wanted text status (answers, none) ends (inr (inl (e, rose, prefix))) =
      subst (AskedEnds before after asked) (sym e)
      (inl (record { status = wanted; text = text }, answers, rose, prefix, none_in_part answers.written none))
  put_ends wanted text status (answers, none) ends (inr (inr (e, keeps))) =
      subst (AskedEnds before after asked) (sym e) (inl (record {
        short = comes_short before.inputs after.inputs asked (record { status = wanted; text = text }) reach answers;
        output = keeps;
        held = held;
      }))

  module _ (Failed : Type 0) (failed : Failed → after.output ≡ before.output → ReadEnds before after asked) where
    pub stop_ends : (stop : CommandStop) (status : Status)
        → StepStops (AnswersUnwritten before.inputs after.inputs asked) Failed (StopsShort before.inputs after.inputs asked) stop
        → PrintsStop before.output after.output stop status → AskedEnds before after asked status
    stop_ends (is_refused line) status says prints = put_ends Refused line.items status says (λ x. x) prints
    stop_ends (is_pattern line) status says prints = put_ends Pattern line.items status says (λ x. x) prints
    stop_ends (is_past line) status says prints = put_ends Limit line.items status says (λ x. x) prints
    stop_ends is_fault status fails (e, same) = subst (AskedEnds before after asked) (sym e) (failed fails same)
    stop_ends is_short status short (e, same) = subst (AskedEnds before after asked) (sym e)
        (inl (record { short = short; output = keeps_all before.output after.output same; held = held }))

    pub result_ends : (result : Result (Vec ℕ) CommandStop) (status : Status)
        → StepComesTo (AnswersUnwritten before.inputs after.inputs asked) Failed (StopsShort before.inputs after.inputs asked) result
        → PrintsResult before.output after.output result status → AskedEnds before after asked status
    result_ends (Ok text) status says prints = put_ends Done text.items status says (λ x. x) prints
    result_ends (Err stop) status says prints = stop_ends stop status says prints
