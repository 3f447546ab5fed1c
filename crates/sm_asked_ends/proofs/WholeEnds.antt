-- How what is asked ends that puts its answer as one piece and writes no file.
use Rattle.std.proofs.Common.{◌≡◌, ℕ, Bool, true, false, true≢false, inl, inr, List, [], ◌∷◌, Option, Some, None, Result, refl, arith}
use Rattle.std.specs.Global.{Vec}
use Rattle.std.specs.Prelude.{Contains}
use Rattle.sm_asked.specs.Answer.{FileWritten, came_writing}
use Rattle.sm_asked.specs.AskedLaws.{ReachesInput, WritesAsNamed}
use Rattle.sm_asked.specs.CommandAsked.{Answers, CommandAsked, ReadFails, StopsShort, told_by}
use Rattle.sm_asked.specs.Comes.{CommandComesTo}
use Rattle.sm_asked.specs.Outside.{Outside}
use Rattle.sm_asked.specs.declared.status.Status.{Status}
use Rattle.sm_asked.specs.declared.stop.CommandStop.{CommandStop}
use Rattle.sm_asked.proofs.Stops.{comes_map}
use Rattle.sm_asked_ends.specs.AskedEnds.{AskedEnds, IfStreams, PutsPart, ReadEnds, WritesPart}
use Rattle.sm_asked_ends.specs.Printing.{PrintsResult}
use Rattle.sm_asked_ends.proofs.EndsPrinted.{AnswersUnwritten, result_ends}

-- it puts its answer as one piece, and writes no file
pub record PutsWhole (asked : CommandAsked) : Type 0 where
  pub streams : asked.streams ≡ false
  pub writes : asked.writes ≡ []
  pub named : WritesAsNamed asked
  pub reach : ReachesInput asked

-- of what names no file nothing is written
nothing_in : (xs : List (List ℕ)) (name : List ℕ) → xs ≡ [] → Contains xs name → ⊥
nothing_in [] name e h = omega (arith, h.1)
nothing_in (x ∷ xs) name e h = cc

none_but : (file : Option FileWritten) → ((f : FileWritten) → file ≡ Some f → ⊥) → file ≡ None
none_but None none = refl
none_but (Some f) none = absurd (none f refl)

by_whole : (streams : Bool) (P Q : Type 0) → streams ≡ false → Q → IfStreams streams P Q
by_whole true P Q e q = absurd (true≢false e)
by_whole false P Q e q = q

module _ (before after : Outside) (asked : CommandAsked) (puts : PutsWhole asked)
    (held : after.inputs.files.held ≡ before.inputs.files.held) where
  read_ends : ReadFails before.inputs after.inputs asked → after.output ≡ before.output → ReadEnds before after asked
  read_ends (inl h) same = inl (h, same)
  read_ends (inr h) same = inr (
    h,
    by_whole asked.streams (PutsPart before after asked × WritesPart before after asked)
        (after.output ≡ before.output) puts.streams same,
  )

  pub whole_ends : (result : Result (Vec ℕ) CommandStop) (status : Status) → CommandComesTo before.inputs after.inputs asked result
      → PrintsResult before.output after.output result status → AskedEnds before after asked status
  whole_ends result status comes prints =
      result_ends before after asked puts.reach held (ReadFails before.inputs after.inputs asked) read_ends result status
      (comes_map (Answers before.inputs after.inputs asked) (AnswersUnwritten before.inputs after.inputs asked)
      (ReadFails before.inputs after.inputs asked) (ReadFails before.inputs after.inputs asked)
      (StopsShort before.inputs after.inputs asked) (StopsShort before.inputs after.inputs asked) result
      (λ a answers. (
        answers,
        none_but answers.written (λ f e.
            nothing_in asked.writes f.name puts.writes
            (puts.named (told_by before.inputs answers.pattern) (came_writing answers.taken a answers.written) f answers.says e)),
      ))
      (λ fails. fails) (λ short. short) comes)
      prints
