-- Where no count of faults rose, a run of words of a form puts its answer, or memory ran out; and a command that doesn't touch
-- the input leaves it as it was.
use Rattle.std.proofs.Common.{◌≡◌, ℕ, List, Option, None, Some, inl, inr, ap, subst, refl}
use Rattle.std.specs.Prelude.{true, false}
use Rattle.sm_io.proofs.Counts.{quiet_not_rose}
use Rattle.sm_model_commands.specs.asked.Answer.{Answer}
use Rattle.sm_model_commands.specs.asked.CommandAsked.{Answers, CommandAsked, RefusedBy, StopsShort, told_by}
use Rattle.sm_model_commands.specs.asked.AskedLaws.{ReachesInput}
use Rattle.sm_model_commands.specs.asked.Outside.{InputsSeen, Outside}
use Rattle.sm_model_commands.specs.asked.declared.status.Status.{Status}
use Rattle.sm_model_commands.specs.asked.declared.status.Status.TheVariants.{Done, Refused, Usage, ReadFault, WriteFault, NoMemory, Pattern, Limit}
use Rattle.sm_commands.specs.Commands.{Command, IsCommandForm, asked_of}
use Rattle.sm_cross_command.specs.asked_ends.AskedEnds.{AnswersFor, MemoryEnds, ReadEnds, WriteEnds}
use Rattle.sm_cross_command.proofs.asked_ends.EndsPrinted.{comes_short}
use Rattle.sm_commands.specs.RunLaws.{IsQuiet, QuietRunAnswers, KeepsInput, KeepsRefusals}
use Rattle.sm_commands.proofs.OneForm.{one_form}
use Rattle.sm_commands.proofs.Commanded.{input_reached}

no_read_fails : (before after : Outside) (asked : CommandAsked) → IsQuiet before after → ReadEnds before after asked → ⊥
no_read_fails before after asked quiet (inl h) =
    quiet_not_rose before.inputs.files.read_faults after.inputs.files.read_faults quiet.files.reads h.0.rose
no_read_fails before after asked quiet (inr h) =
    quiet_not_rose before.inputs.input.faults after.inputs.input.faults quiet.input h.0.rose

no_write_fails : (before after : Outside) (asked : CommandAsked) → IsQuiet before after → WriteEnds before after asked → ⊥
no_write_fails before after asked quiet (inl h) =
    quiet_not_rose before.output.faults after.output.faults quiet.output h.2
no_write_fails before after asked quiet (inr h) = elim h.rose [
  | inl rose ↦ quiet_not_rose before.output.faults after.output.faults quiet.output rose
  | inr rose ↦ quiet_not_rose before.inputs.files.write_faults after.inputs.files.write_faults quiet.files.writes rose
]

pub quiet_answers : QuietRunAnswers
quiet_answers words command before after Done is quiet ends = inl ends
quiet_answers words command before after Refused is quiet ends = inl ends
quiet_answers words command before after Pattern is quiet ends = inl ends
quiet_answers words command before after Limit is quiet ends = inl ends
quiet_answers words command before after Usage is quiet ends = absurd (ends.0 command is)
quiet_answers words command before after ReadFault is quiet ends =
    absurd (no_read_fails before after (asked_of ends.0) quiet ends.2)
quiet_answers words command before after WriteFault is quiet ends =
    absurd (no_write_fails before after (asked_of ends.0) quiet ends.2)
quiet_answers words command before after NoMemory is quiet ends = inr refl

-- what doesn't touch the input never reaches it
never_reached : (seen : InputsSeen) (pattern : Option (List ℕ)) (asked : CommandAsked) → ReachesInput asked → asked.touches_input ≡ false
    → asked.reaches (told_by seen pattern) → ⊥
never_reached seen pattern asked reach untouching reached =
    let touching : asked.touches_input ≡ true = (reach (told_by seen pattern)).1 reached in cc

short_keeps : (before after : InputsSeen) (asked : CommandAsked) → ReachesInput asked → asked.touches_input ≡ false
    → StopsShort before after asked → after.input ≡ before.input
short_keeps before after asked reach untouching (inl same) = same
short_keeps before after asked reach untouching (inr (pattern, by, reached)) =
    absurd (never_reached before pattern asked reach untouching reached)

fails_keeps : (before after : Outside) (asked : CommandAsked) → ReachesInput asked → asked.touches_input ≡ false → ReadEnds before after asked
    → after.inputs.input ≡ before.inputs.input
fails_keeps before after asked reach untouching (inl h) = h.0.input
fails_keeps before after asked reach untouching (inr h) = absurd (never_reached before.inputs None asked reach untouching h.0.reached)

-- the command that the words ask for is the one that ran
same_untouching : (words : List (List ℕ)) (command ran : Command) → IsCommandForm words command → IsCommandForm words ran
    → (asked_of command).touches_input ≡ false → (asked_of ran).touches_input ≡ false
same_untouching words command ran is is1 untouching =
    subst (λ x. (asked_of x).touches_input ≡ false) (one_form words command ran is is1) untouching

prints_keeps : (before after : Outside) (status : Status) (asked : CommandAsked) → ReachesInput asked → asked.touches_input ≡ false
    → AnswersFor before after status asked → after.inputs.input ≡ before.inputs.input
prints_keeps before after status asked reach untouching (inl h) =
    short_keeps before.inputs after.inputs asked reach untouching
    (comes_short before.inputs after.inputs asked (record { status = status; text = h.0 }) reach h.1)
prints_keeps before after status asked reach untouching (inr h) =
    absurd (never_reached before.inputs None asked reach untouching h.streamed.reached)

write_keeps : (before after : Outside) (asked : CommandAsked) → ReachesInput asked → asked.touches_input ≡ false → WriteEnds before after asked
    → after.inputs.input ≡ before.inputs.input
write_keeps before after asked reach untouching (inl h) =
    short_keeps before.inputs after.inputs asked reach untouching (comes_short before.inputs after.inputs asked h.0 reach h.1)
write_keeps before after asked reach untouching (inr h) =
    absurd (never_reached before.inputs None asked reach untouching h.streamed.reached)

memory_keeps : (before after : Outside) (asked : CommandAsked) → ReachesInput asked → asked.touches_input ≡ false
    → MemoryEnds before after asked → after.inputs.input ≡ before.inputs.input
memory_keeps before after asked reach untouching (inl h) = short_keeps before.inputs after.inputs asked reach untouching h.short
memory_keeps before after asked reach untouching (inr h) =
    absurd (never_reached before.inputs None asked reach untouching h.0.reached)

pub keeps_input : KeepsInput
keeps_input words command before after Done is untouching ends = prints_keeps before after Done (asked_of ends.0) (input_reached ends.0)
    (same_untouching words command ends.0 is ends.1 untouching) ends.2
keeps_input words command before after Refused is untouching ends =
    prints_keeps before after Refused (asked_of ends.0) (input_reached ends.0)
    (same_untouching words command ends.0 is ends.1 untouching) ends.2
keeps_input words command before after Pattern is untouching ends =
    prints_keeps before after Pattern (asked_of ends.0) (input_reached ends.0)
    (same_untouching words command ends.0 is ends.1 untouching) ends.2
keeps_input words command before after Limit is untouching ends = prints_keeps before after Limit (asked_of ends.0) (input_reached ends.0)
    (same_untouching words command ends.0 is ends.1 untouching) ends.2
keeps_input words command before after Usage is untouching (none, same) = absurd (none command is)
keeps_input words command before after ReadFault is untouching ends =
    fails_keeps before after (asked_of ends.0) (input_reached ends.0) (same_untouching words command ends.0 is ends.1 untouching) ends.2
keeps_input words command before after WriteFault is untouching ends =
    write_keeps before after (asked_of ends.0) (input_reached ends.0) (same_untouching words command ends.0 is ends.1 untouching) ends.2
keeps_input words command before after NoMemory is untouching ends =
    memory_keeps before after (asked_of ends.0) (input_reached ends.0) (same_untouching words command ends.0 is ends.1 untouching) ends.2

-- an answer of another status refuses no pattern
none_refused : (before after : InputsSeen) (asked : CommandAsked) (a : Answer) → (a.status ≡ Pattern → ⊥) → Answers before after asked a
    → after.store.refusals ≡ before.store.refusals
none_refused before after asked a other h = by_pattern h.pattern h.by h.only
  where
    by_pattern : (pattern : Option (List ℕ)) → RefusedBy before.store after.store pattern
        → ((u : List ℕ) → pattern ≡ Some u → a.status ≡ Pattern) → after.store.refusals ≡ before.store.refusals
    by_pattern None by only = by
    by_pattern (Some u) by only = absurd (other (only u refl))

answers_keep : (before after : Outside) (status : Status) (asked : CommandAsked) → (status ≡ Pattern → ⊥)
    → AnswersFor before after status asked → after.inputs.store.refusals ≡ before.inputs.store.refusals
answers_keep before after status asked other (inl h) =
    none_refused before.inputs after.inputs asked (record { status = status; text = h.0 }) other h.1
answers_keep before after status asked other (inr h) = h.streamed.refusals

pub keeps_refusals : KeepsRefusals
keeps_refusals words before after Done ends none = answers_keep before after Done (asked_of ends.0) (λ e. cc) ends.2
keeps_refusals words before after Refused ends none = answers_keep before after Refused (asked_of ends.0) (λ e. cc) ends.2
keeps_refusals words before after Limit ends none = answers_keep before after Limit (asked_of ends.0) (λ e. cc) ends.2
keeps_refusals words before after Usage (no_form, same) none = ap (λ (x : Outside). x.inputs.store.refusals) same
keeps_refusals words before after ReadFault (ran, is, inl h) none = h.0.refusals
keeps_refusals words before after ReadFault (ran, is, inr h) none = h.0.refusals
keeps_refusals words before after WriteFault ends none = absurd none
keeps_refusals words before after NoMemory ends none = absurd none
keeps_refusals words before after Pattern ends none = absurd none
