-- How a run of the program ends: as what its words ask for, of which it knows nothing but that; which files it leaves as they are. Clauses
-- on bytes hold where the outside tells them.
use Rattle.std.specs.Prelude.{◌≡◌, ℕ, List, [], Option, Contains}
use Rattle.sm_io.specs.Files.{Folder}
use Rattle.sm_model_commands.specs.asked.Answer.{code_of}
use Rattle.sm_model_commands.specs.asked.CommandAsked.{CommandAsked}
use Rattle.sm_model_commands.specs.asked.Outside.{Outside}
use Rattle.sm_model_commands.specs.asked.declared.status.Status.{Status}
use Rattle.sm_model_commands.specs.asked.declared.status.Status.TheVariants.{Done, Refused, Usage, ReadFault, WriteFault, NoMemory, Pattern, Limit}
use Rattle.sm_cross_command.specs.asked_ends.AskedEnds.{AnswersFor, MemoryEnds, ReadEnds, StandsAsBefore, WriteEnds}
use Rattle.sm_commands.specs.Commands.{Command, IsCommandForm, IsNoForm, asked_of}

-- a file that the words don't name to be written is as it was
abbrev pub KeepsFiles : List (List ℕ) → Option Folder → Option Folder → Type 0
KeepsFiles words before after = (command : Command) (name : List ℕ) → IsCommandForm words command
    → (Contains (asked_of command).writes name → ⊥) → StandsAsBefore before after name

-- this holds of a run of words that name no file to be written
abbrev pub WritingNone : List (List ℕ) → Type 0 → Type 0
WritingNone words P = (command : Command) → IsCommandForm words command → (asked_of command).writes ≡ [] → P

-- the words have the form of a command, and this holds of what it asks
abbrev pub ForCommand : List (List ℕ) → (CommandAsked → Type 0) → Type 0
ForCommand words P = (command : Command) × IsCommandForm words command × P (asked_of command)

-- what the words ask for ended with this status
abbrev pub Prints : List (List ℕ) → Outside → Outside → Status → Type 0
Prints words before after status = ForCommand words (λ asked. AnswersFor before after status asked)

-- How the program ends: as what the words ask for does, and where they have no form, at once.
abbrev pub RunEnds : List (List ℕ) → Outside → Outside → Status → Type 0
RunEnds words before after Done = Prints words before after Done
RunEnds words before after Refused = Prints words before after Refused
RunEnds words before after Pattern = Prints words before after Pattern
RunEnds words before after Limit = Prints words before after Limit
RunEnds words before after Usage = IsNoForm words × Path Outside after before
RunEnds words before after ReadFault = ForCommand words (λ asked. ReadEnds before after asked)
RunEnds words before after WriteFault = ForCommand words (λ asked. WriteEnds before after asked)
RunEnds words before after NoMemory = ForCommand words (λ asked. MemoryEnds before after asked)

-- the number is that of a status by which the program ends so
abbrev pub RunAnswers : List (List ℕ) → Outside → Outside → ℕ → Type 0
RunAnswers words before after code = (status : Status) × (code ≡ code_of status) × RunEnds words before after status
