-- How what is asked ends, by a status: how much is printed and written of what it comes to, which counts of faults rose, and what is left
-- of its files and its input. Clauses on bytes hold where the outside tells them.
use Rattle.std.specs.Prelude.{◌≡◌, ◌++◌, ℕ, ◌⊎◌, Bool, true, false, List, Option, None, Some, IfSome, IsSomeAnd}
use Rattle.std.specs.Io.KnownBytes.{Keeps, Appends}
use Rattle.sm_io.specs.Causes.{Quiet, Rose}
use Rattle.sm_io.specs.Files.{Folder, Holds, file_at}
use Rattle.sm_io.specs.Writing.{AppendsPrefix}
use Rattle.sm_asked.specs.Answer.{Answer, Came, FileWritten}
use Rattle.sm_asked.specs.AskedLaws.{TellsAll}
use Rattle.sm_asked.specs.CommandAsked.{CommandAsked, Answers, FileFails, InputFails, StopsShort, told_by}
use Rattle.sm_asked.specs.Outside.{InputsSeen, Outside}
use Rattle.sm_asked.specs.declared.status.Status.{Status}
use Rattle.sm_asked.specs.declared.status.Status.TheVariants.{Done, Refused, Usage, ReadFault, WriteFault, NoMemory, Pattern, Limit}

-- where told, the name stands for what it stood for
abbrev pub StandsAsBefore : Option Folder → Option Folder → List ℕ → Type 0
StandsAsBefore before after name = IfSome before (λ folder. IsSomeAnd after (λ later. file_at later name ≡ file_at folder name))

-- where told, the file stands there that is written; and where none is, the files are as they were
abbrev pub IsWritten : Option Folder → Option Folder → Option FileWritten → Type 0
IsWritten before after None = after ≡ before
IsWritten before after (Some file) = Holds after file.name (Some file.bytes)

-- or what stood there before, or a prefix of it
abbrev pub IsWrittenInPart : Option Folder → Option Folder → Option FileWritten → Type 0
IsWrittenInPart before after None = after ≡ before
IsWrittenInPart before after (Some file) =
    StandsAsBefore before after file.name
    ⊎ ((part rest : List ℕ) × (file.bytes ≡ part ++ rest) × Holds after file.name (Some part))

-- an answer has this status, its text was put, and its file is written
abbrev pub PrintsFor : Outside → Outside → Status → CommandAsked → Type 0
PrintsFor before after status asked =
    (text : List ℕ) × (answers : Answers before.inputs after.inputs asked (record { status = status; text = text }))
    × Appends before.output.bytes after.output.bytes text
    × IsWritten before.inputs.files.held after.inputs.files.held answers.written

-- what is asked puts its answer while it reads the input, and came as far: no pattern was refused
pub record HasStreamed (before after : Outside) (asked : CommandAsked) : Type 0 where
  pub streams : asked.streams ≡ true
  pub reached : asked.reaches (told_by before.inputs None)
  pub refusals : after.inputs.store.refusals ≡ before.inputs.store.refusals

-- then an answer is known to have this status only where the input is told
pub record StreamsFor (before after : Outside) (status : Status) (asked : CommandAsked) : Type 0 where
  pub streamed : HasStreamed before after asked
  pub told : IfSome before.inputs.input.bytes (λ bytes. PrintsFor before after status asked)

-- its work ended with this status
abbrev pub AnswersFor : Outside → Outside → Status → CommandAsked → Type 0
AnswersFor before after status asked = PrintsFor before after status asked ⊎ StreamsFor before after status asked

-- of whatever it comes to over files and an input that are told
abbrev pub OfAllSaid : InputsSeen → CommandAsked → (Came → Type 0) → Type 0
OfAllSaid seen asked P =
    (folder : Folder) (input : List ℕ) (c : Came) → TellsAll (told_by seen None) folder input → asked.says (told_by seen None) c → P c

-- of that a part was put, and a part of its file is written
abbrev pub PutsPart : Outside → Outside → CommandAsked → Type 0
PutsPart before after asked =
    OfAllSaid before.inputs asked (λ c. AppendsPrefix before.output.bytes after.output.bytes c.answer.text)

abbrev pub WritesPart : Outside → Outside → CommandAsked → Type 0
WritesPart before after asked =
    OfAllSaid before.inputs asked (λ c. IsWrittenInPart before.inputs.files.held after.inputs.files.held c.written)

-- the one holds where a command streams, and the other where it doesn't
abbrev pub IfStreams : Bool → Type 0 → Type 0 → Type 0
IfStreams true Streaming Whole = Streaming
IfStreams false Streaming Whole = Whole

-- a read failed. Nothing was put, but by a command that streams, and whose input it was
abbrev pub ReadEnds : Outside → Outside → CommandAsked → Type 0
ReadEnds before after asked =
    (FileFails before.inputs after.inputs × (after.output ≡ before.output))
    ⊎ (InputFails before.inputs after.inputs asked
    × IfStreams asked.streams (PutsPart before after asked × WritesPart before after asked) (after.output ≡ before.output))

-- a write of the output failed, and a prefix of the answer was put
abbrev pub WriteFails : Outside → Outside → CommandAsked → Type 0
WriteFails before after asked =
    (a : Answer) × (answers : Answers before.inputs after.inputs asked a) × Rose before.output.faults after.output.faults
    × AppendsPrefix before.output.bytes after.output.bytes a.text
    × IsWrittenInPart before.inputs.files.held after.inputs.files.held answers.written

-- or, where it streams, one of the output or of its file; what the file holds whose write failed isn't known
pub record StreamFails (before after : Outside) (asked : CommandAsked) : Type 0 where
  pub streamed : HasStreamed before after asked
  pub rose : Rose before.output.faults after.output.faults ⊎ Rose before.inputs.files.write_faults after.inputs.files.write_faults
  pub text : PutsPart before after asked
  pub file : Quiet before.inputs.files.write_faults after.inputs.files.write_faults → WritesPart before after asked

abbrev pub WriteEnds : Outside → Outside → CommandAsked → Type 0
WriteEnds before after asked = WriteFails before after asked ⊎ StreamFails before after asked

-- memory ran out: nothing was put or written, but by a command that streams; and what its file holds isn't known then
pub record KeepsAll (before after : Outside) (asked : CommandAsked) : Type 0 where
  pub short : StopsShort before.inputs after.inputs asked
  pub output : Keeps before.output.bytes after.output.bytes
  pub held : after.inputs.files.held ≡ before.inputs.files.held

abbrev pub MemoryEnds : Outside → Outside → CommandAsked → Type 0
MemoryEnds before after asked = KeepsAll before after asked ⊎ (HasStreamed before after asked × PutsPart before after asked)

-- After an answer its text was put and its file is written; after a failed write a prefix of it; else nothing, but for a command that
-- streams. ReadFault and WriteFault come only where a count of faults rose. NoMemory may always come.
abbrev pub AskedEnds : Outside → Outside → CommandAsked → Status → Type 0
AskedEnds before after asked Done = AnswersFor before after Done asked
AskedEnds before after asked Refused = AnswersFor before after Refused asked
AskedEnds before after asked Pattern = AnswersFor before after Pattern asked
AskedEnds before after asked Limit = AnswersFor before after Limit asked
AskedEnds before after asked Usage = ⊥
AskedEnds before after asked ReadFault = ReadEnds before after asked
AskedEnds before after asked WriteFault = WriteEnds before after asked
AskedEnds before after asked NoMemory = MemoryEnds before after asked
