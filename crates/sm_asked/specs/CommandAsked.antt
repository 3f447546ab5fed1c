-- What is asked of the program, by whatever command: what it may touch of the outside, and what it comes to; and what that says of a run,
-- between its begin and its end. Clauses on bytes hold where the outside tells them.
use Rattle.std.specs.Prelude.{◌≡◌, ◌⊎◌, ◌++◌, ℕ, Bool, false, List, [], Option, None, Some}
use Rattle.std.specs.Io.KnownBytes.{IsAtEnd}
use Rattle.sm_io.specs.Causes.{Rose}
use Rattle.sm_io.specs.Files.{Folder}
use Rattle.sm_io.specs.Seen.{Stream}
use Rattle.sm_compile.specs.Answers.{StoreSeen}
use Rattle.sm_asked.specs.Answer.{Answer, Came, FileWritten, InputUse, came, came_writing}
use Rattle.sm_asked.specs.Answer.InputUse.{untouched, to_its_end, past_its_limit, in_part}
use Rattle.sm_asked.specs.Outside.{InputsSeen}
use Rattle.sm_asked.specs.Stages.{Told, told}
use Rattle.sm_asked.specs.declared.status.Status.TheVariants.{Pattern}

pub record CommandAsked : Type 1 where
  -- the names of the files that it may read, and of those that it may write
  pub reads : List (List ℕ)
  pub writes : List (List ℕ)
  -- whether it may read the input
  pub touches_input : Bool
  -- whether it puts its answer, and writes its file, while it reads the input: then a part may stand there where it ends before
  pub streams : Bool
  -- what it comes to, over what is told
  pub says : Told → Came → Type 0
  -- the stage from which it reads the input: nothing that stands before it is refused
  pub reaches : Told → Type 0

-- what reads files alone, and writes none
abbrev pub over_files : List (List ℕ) → (Option Folder → Answer → Type 0) → CommandAsked
over_files names FilesSay = record {
  reads = names;
  writes = [];
  touches_input = false;
  streams = false;
  says = λ t c. (a : Answer) × FilesSay t.files a × (c ≡ came untouched a);
  reaches = λ t. ⊥;
}

-- what is told of a run that begins with these inputs, in which the store refuses this pattern, or none
abbrev pub told_by : InputsSeen → Option (List ℕ) → Told
told_by seen pattern = told seen.files.held seen.input.bytes seen.test seen.store pattern

-- in between the store refused none; or its count of refusals rose, and this text is the one refused last
abbrev pub RefusedBy : StoreSeen → StoreSeen → Option (List ℕ) → Type 0
RefusedBy before after None = after.refusals ≡ before.refusals
RefusedBy before after (Some u) = Rose before.refusals after.refusals × (after.refused ≡ Some u)

-- patterns were only added
abbrev pub OnlyAdds : List (List ℕ) → List (List ℕ) → Type 0
OnlyAdds before after = (more : List (List ℕ)) × (after ≡ before ++ more)

-- what is left of an input of which so much is read
abbrev pub LeavesInput : InputUse → Stream → Stream → Type 0
LeavesInput untouched input rest = rest ≡ input
LeavesInput to_its_end input rest = IsAtEnd rest.bytes
LeavesInput past_its_limit input rest = Unit {0}
LeavesInput in_part input rest = Unit {0}

-- over these inputs it comes to this answer, and what it leaves of them. Where a pattern was refused, that is the answer
pub record Answers (before after : InputsSeen) (asked : CommandAsked) (a : Answer) : Type 0 where
  pub taken : InputUse
  pub written : Option FileWritten
  pub pattern : Option (List ℕ)
  pub by : RefusedBy before.store after.store pattern
  pub only : (u : List ℕ) → pattern ≡ Some u → a.status ≡ Pattern
  pub says : asked.says (told_by before pattern) (came_writing taken a written)
  pub left : LeavesInput taken before.input after.input

-- no answer stands before the input
abbrev pub Reached : InputsSeen → InputsSeen → CommandAsked → Type 0
Reached before after asked =
    (pattern : Option (List ℕ)) × RefusedBy before.store after.store pattern × asked.reaches (told_by before pattern)

-- a read of a file failed; the files, the input and the count of refusals are as they were
pub record FileFails (before after : InputsSeen) : Type 0 where
  pub rose : Rose before.files.read_faults after.files.read_faults
  pub held : after.files.held ≡ before.files.held
  pub input : after.input ≡ before.input
  pub refusals : after.store.refusals ≡ before.store.refusals

-- one of the input failed; no answer stands before it, and no pattern was refused
pub record InputFails (before after : InputsSeen) (asked : CommandAsked) : Type 0 where
  pub rose : Rose before.input.faults after.input.faults
  pub reached : asked.reaches (told_by before None)
  pub refusals : after.store.refusals ≡ before.store.refusals

abbrev pub ReadFails : InputsSeen → InputsSeen → CommandAsked → Type 0
ReadFails before after asked = FileFails before after ⊎ InputFails before after asked

-- the input is as it was, unless no answer stands before it
abbrev pub StopsShort : InputsSeen → InputsSeen → CommandAsked → Type 0
StopsShort before after asked = (after.input ≡ before.input) ⊎ Reached before after asked
