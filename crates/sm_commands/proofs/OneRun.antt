-- Two runs of the same words over files and an input that tell the same bytes end alike.
use Rattle.std.proofs.Common.{◌≡◌, ◌<◌, ℕ, ◌⊎◌, inl, inr, List, [], Option, Some, None, sym, ap, subst, ◌∙◌, refl, append-nil}
use Rattle.std.specs.Prelude.{IfSome}
use Rattle.std.specs.Io.KnownBytes.{Appends}
use Rattle.sm_io.specs.Files.{Folder}
use Rattle.sm_io.specs.Causes.{last_count}
use Rattle.sm_io.proofs.Counts.{quiet_not_rose}
use Rattle.sm_compile.specs.Answers.{StoreSeen}
use Rattle.sm_model_commands.specs.asked.Outside.{InputsSeen, Outside}
use Rattle.sm_commands.specs.Commands.{IsNoForm, asked_of}
use Rattle.sm_model_commands.specs.asked.Answer.{Answer, Came, came_writing}
use Rattle.sm_model_commands.specs.asked.Stages.{Told}
use Rattle.sm_commands.specs.Says.{OneAnswer}
use Rattle.sm_model_commands.specs.asked.AskedLaws.{ComesToOne, TellsAll}
use Rattle.sm_model_commands.specs.asked.CommandAsked.{CommandAsked, Answers, RefusedBy, told_by}
use Rattle.sm_cross_command.specs.asked_ends.AskedEnds.{AnswersFor, IsWritten, PrintsFor}
use Rattle.sm_commands.specs.Run.{ForCommand, Prints, RunEnds}
use Rattle.sm_commands.specs.RunLaws.{EndAlike, IsAnswered, IsAnsweredRun, OneRunAnswer}
use Rattle.sm_model_commands.specs.asked.declared.status.Status.{Status}
use Rattle.sm_model_commands.specs.asked.declared.status.Status.TheVariants.{Done, Refused, Usage, ReadFault, WriteFault, NoMemory, Pattern, Limit}
use Rattle.sm_commands.proofs.OneForm.{one_form}

-- a store that isn't at its last count refused one pattern at most
pattern_same : (before after : StoreSeen) (p q : Option (List ℕ)) → before.refusals < last_count → RefusedBy before after p
    → RefusedBy before after q → p ≡ q
pattern_same before after None None below h i = refl
pattern_same before after None (Some v) below h i = absurd (quiet_not_rose before.refusals after.refusals
    (record { same = h; below = below }) i.0)
pattern_same before after (Some u) None below h i = absurd (quiet_not_rose before.refusals after.refusals
    (record { same = i; below = below }) h.0)
pattern_same before after (Some u) (Some v) below h i = sym h.1 ∙ i.1

-- what a command comes to, over what is told
says_told : (t : Told) (seen : InputsSeen) (pattern : Option (List ℕ)) (asked : CommandAsked) (c : Came) → pattern ≡ t.refused
    → Path Told (told_by seen t.refused) t → asked.says (told_by seen pattern) c → asked.says t c
says_told t seen pattern asked c e tells h =
    subst (λ x. asked.says x c) tells (subst (λ x. asked.says (told_by seen x) c) e h)

-- two runs for what is asked come to one thing
came_same : (words : List (List ℕ)) (t : Told) (folder : Folder) (input : List ℕ) (before after before1 after1 : Outside)
    (status status1 : Status) (asked : CommandAsked) (a b : Answer) → ComesToOne asked → TellsAll t folder input
    → IsAnsweredRun words t before after status → IsAnsweredRun words t before1 after1 status1
    → (ha : Answers before.inputs after.inputs asked a) → (ib : Answers before1.inputs after1.inputs asked b)
    → came_writing ha.taken a ha.written ≡ came_writing ib.taken b ib.written
came_same words t folder input before after before1 after1 status status1 asked a b one all h i ha ib =
    one t folder input (came_writing ha.taken a ha.written) (came_writing ib.taken b ib.written) all
    (says_told t before.inputs ha.pattern asked (came_writing ha.taken a ha.written)
    (pattern_same before.inputs.store after.inputs.store ha.pattern t.refused h.below ha.by h.by) h.tells ha.says)
    (says_told t before1.inputs ib.pattern asked (came_writing ib.taken b ib.written)
    (pattern_same before1.inputs.store after1.inputs.store ib.pattern t.refused i.below ib.by i.by) i.tells ib.says)

prints_same : (words : List (List ℕ)) (t : Told) (folder : Folder) (input : List ℕ) (before after before1 after1 : Outside)
    (status status1 : Status) (asked : CommandAsked) → ComesToOne asked → TellsAll t folder input
    → IsAnsweredRun words t before after status → IsAnsweredRun words t before1 after1 status1
    → PrintsFor before after status asked → PrintsFor before1 after1 status1 asked → EndAlike before after before1 after1 status status1
prints_same words t folder input before after before1 after1 status status1 asked one all h i (text, comes, put, written)
    (text1, comes1, put1, written1) =
    let same = came_same words t folder input before after before1 after1 status status1 asked (record { status = status; text = text })
    (record { status = status1; text = text1 }) one all h i comes comes1 in
    record {
      same = ap (λ (x : Came). x.answer.status) same;
      text = text1;
      put = subst (λ x. Appends before.output.bytes after.output.bytes x) (ap (λ (x : Came). x.answer.text) same) put;
      put1 = put1;
      file = comes1.written;
      written = subst (λ x. IsWritten before.inputs.files.held after.inputs.files.held x) (ap (λ (x : Came). x.written) same) written;
      written1 = written1;
    }

-- where the input is told, an answer was printed
printed : (before after : Outside) (status : Status) (asked : CommandAsked) (input : List ℕ) → before.inputs.input.bytes ≡ Some input
    → AnswersFor before after status asked → PrintsFor before after status asked
printed before after status asked input is (inl h) = h
printed before after status asked input is (inr h) = subst (λ o. IfSome o (λ bytes. PrintsFor before after status asked)) is h.told

abbrev PrintsOf : List (List ℕ) → Outside → Outside → Status → Type 0
PrintsOf words before after status = ForCommand words (λ asked. PrintsFor before after status asked)

prints_of : (words : List (List ℕ)) (before after : Outside) (status : Status) (input : List ℕ) → before.inputs.input.bytes ≡ Some input
    → Prints words before after status → PrintsOf words before after status
prints_of words before after status input is (command, form, h) =
    (command, form, printed before after status (asked_of command) input is h)

-- an answer is printed, or the words have no form
answered : (words : List (List ℕ)) (before after : Outside) (status : Status) (input : List ℕ) → before.inputs.input.bytes ≡ Some input
    → RunEnds words before after status → IsAnswered status
    → PrintsOf words before after status ⊎ ((status ≡ Usage) × IsNoForm words × Path Outside after before)
answered words before after Done input is h t = inl (prints_of words before after Done input is h)
answered words before after Refused input is h t = inl (prints_of words before after Refused input is h)
answered words before after Pattern input is h t = inl (prints_of words before after Pattern input is h)
answered words before after Limit input is h t = inl (prints_of words before after Limit input is h)
answered words before after Usage input is h t = inr (refl, h.0, h.1)
answered words before after ReadFault input is h t = absurd t
answered words before after WriteFault input is h t = absurd t
answered words before after NoMemory input is h t = absurd t

appends_nothing : (before after : Outside) → Path Outside after before → Appends before.output.bytes after.output.bytes []
appends_nothing before after e = subst (λ (x : Outside). Appends before.output.bytes x.output.bytes []) (sym e) (kept before.output.bytes)
  where
    kept : (bytes : Option (List ℕ)) → Appends bytes bytes []
    kept None = tt
    kept (Some xs) = sym (append-nil xs)

-- two runs that end with answers end so alike
ends_same : OneAnswer → (words : List (List ℕ)) (t : Told) (folder : Folder) (input : List ℕ) (before after before1 after1 : Outside)
    (status status1 : Status)
    → TellsAll t folder input → IsAnsweredRun words t before after status → IsAnsweredRun words t before1 after1 status1
    → PrintsOf words before after status ⊎ ((status ≡ Usage) × IsNoForm words × Path Outside after before)
    → PrintsOf words before1 after1 status1 ⊎ ((status1 ≡ Usage) × IsNoForm words × Path Outside after1 before1)
    → EndAlike before after before1 after1 status status1
ends_same ones words t folder input before after before1 after1 status status1 all h i (inl (command, is, p)) (inl (command1, is1, p1)) =
    prints_same words t folder input before after before1 after1 status status1 (asked_of command1) (ones command1) all h i
    (subst (λ x. PrintsFor before after status (asked_of x)) (one_form words command command1 is is1) p) p1
ends_same ones words t folder input before after before1 after1 status status1 all h i (inl (command, is, p)) (inr (e, none, same)) =
    absurd (none command is)
ends_same ones words t folder input before after before1 after1 status status1 all h i (inr (e, none, same)) (inl (command, is, p)) =
    absurd (none command is)
ends_same ones words t folder input before after before1 after1 status status1 all h i (inr (e, none, same)) (inr (e1, none1, same1)) =
    record {
      same = e ∙ sym e1;
      text = [];
      put = appends_nothing before after same;
      put1 = appends_nothing before1 after1 same1;
      file = None;
      written = ap (λ (x : Outside). x.inputs.files.held) same;
      written1 = ap (λ (x : Outside). x.inputs.files.held) same1;
    }

-- the input that a run is told
told_input : (t : Told) (folder : Folder) (input : List ℕ) (seen : InputsSeen) → TellsAll t folder input
    → Path Told (told_by seen t.refused) t → seen.input.bytes ≡ Some input
told_input t folder input seen all tells = ap (λ (x : Told). x.input) tells ∙ all.input

pub one_run_answer : OneAnswer → OneRunAnswer
one_run_answer ones words t folder input before after before1 after1 status status1 all h i =
    ends_same ones words t folder input before after before1 after1 status status1 all h i
    (answered words before after status input (told_input t folder input before.inputs all h.tells) h.ends h.answered)
    (answered words before1 after1 status1 input (told_input t folder input before1.inputs all i.tells) i.ends i.answered)
