-- That two runs over one outside end alike, and that the answer is put where nothing failed.
use Rattle.std.specs.Prelude.{◌≡◌, ◌⊎◌, ◌<◌, ℕ, false, List, Option}
use Rattle.std.specs.Io.KnownBytes.{Appends}
use Rattle.sm_io.specs.Causes.{Quiet, last_count}
use Rattle.sm_io.specs.Files.{Folder}
use Rattle.sm_io.specs.Seen.{QuietFiles}
use Rattle.sm_model_commands.specs.asked.Answer.{FileWritten}
use Rattle.sm_model_commands.specs.asked.Outside.{Outside}
use Rattle.sm_cross_command.specs.asked_ends.AskedEnds.{IsWritten}
use Rattle.sm_commands.specs.Commands.{Command, IsCommandForm, asked_of}
use Rattle.sm_model_commands.specs.asked.Stages.{Told}
use Rattle.sm_model_commands.specs.asked.AskedLaws.{TellsAll}
use Rattle.sm_commands.specs.Run.{Prints, RunEnds}
use Rattle.sm_model_commands.specs.asked.CommandAsked.{RefusedBy, told_by}
use Rattle.sm_model_commands.specs.asked.declared.status.Status.{Status}
use Rattle.sm_model_commands.specs.asked.declared.status.Status.TheVariants.{Done, Refused, Usage, ReadFault, WriteFault, NoMemory, Pattern, Limit}

-- the status is of an answer: neither `NoMemory` nor that of a fault of the outside
abbrev pub IsAnswered : Status → Type 0
IsAnswered Done = Unit {0}
IsAnswered Refused = Unit {0}
IsAnswered Usage = Unit {0}
IsAnswered Pattern = Unit {0}
IsAnswered Limit = Unit {0}
IsAnswered ReadFault = ⊥
IsAnswered WriteFault = ⊥
IsAnswered NoMemory = ⊥

-- a run of these words that is told this, in which the store refuses the pattern that is told, or none; it ends with an answer of this
-- status. The count of refusals isn't at its last number, where it couldn't tell
pub record IsAnsweredRun (words : List (List ℕ)) (t : Told) (before after : Outside) (status : Status) : Type 0 where
  pub tells : Path Told (told_by before.inputs t.refused) t
  pub by : RefusedBy before.inputs.store after.inputs.store t.refused
  pub below : before.inputs.store.refusals < last_count
  pub ends : RunEnds words before after status
  pub answered : IsAnswered status

-- two runs end alike: by one status, one text is put and one file is written, if any
pub record EndAlike (before after before1 after1 : Outside) (status status1 : Status) : Type 0 where
  pub same : status ≡ status1
  pub text : List ℕ
  pub put : Appends before.output.bytes after.output.bytes text
  pub put1 : Appends before1.output.bytes after1.output.bytes text
  pub file : Option FileWritten
  pub written : IsWritten before.inputs.files.held after.inputs.files.held file
  pub written1 : IsWritten before1.inputs.files.held after1.inputs.files.held file

-- a law: the words, the files, the input and the store determine the status, the bytes that are put and the file that is written. So each
-- status comes exactly where its reason is, but for faults of the outside and where memory runs out
abbrev pub OneRunAnswer : Type 0
OneRunAnswer = (words : List (List ℕ)) (t : Told) (folder : Folder) (input : List ℕ) (before after before1 after1 : Outside)
    (status status1 : Status)
    → TellsAll t folder input → IsAnsweredRun words t before after status → IsAnsweredRun words t before1 after1 status1
    → EndAlike before after before1 after1 status status1

-- no count of faults rose in between: neither those of reads and writes of files, nor those of the input and of the output
pub record IsQuiet (before after : Outside) : Type 0 where
  pub files : QuietFiles before.inputs.files after.inputs.files
  pub input : Quiet before.inputs.input.faults after.inputs.input.faults
  pub output : Quiet before.output.faults after.output.faults

-- a law: where the words have a form and no count rose, the answer is put, or memory ran out. That the files are
-- there needn't be said: to read one that isn't raises the count
abbrev pub QuietRunAnswers : Type 0
QuietRunAnswers = (words : List (List ℕ)) (command : Command) (before after : Outside) (status : Status)
    → IsCommandForm words command → IsQuiet before after → RunEnds words before after status
    → Prints words before after status ⊎ (status ≡ NoMemory)

-- a law: a run of a command that doesn't touch the input leaves it as it was
abbrev pub KeepsInput : Type 0
KeepsInput = (words : List (List ℕ)) (command : Command) (before after : Outside) (status : Status)
    → IsCommandForm words command → (asked_of command).touches_input ≡ false → RunEnds words before after status
    → after.inputs.input ≡ before.inputs.input

-- by these statuses a run ends that refuses no pattern. By WriteFault and NoMemory one may end that couldn't print the line
abbrev pub RefusesNone : Status → Type 0
RefusesNone Done = Unit {0}
RefusesNone Refused = Unit {0}
RefusesNone Usage = Unit {0}
RefusesNone ReadFault = Unit {0}
RefusesNone Limit = Unit {0}
RefusesNone WriteFault = ⊥
RefusesNone NoMemory = ⊥
RefusesNone Pattern = ⊥

-- a law: it leaves the count of refusals
abbrev pub KeepsRefusals : Type 0
KeepsRefusals = (words : List (List ℕ)) (before after : Outside) (status : Status) → RunEnds words before after status → RefusesNone status
    → after.inputs.store.refusals ≡ before.inputs.store.refusals
