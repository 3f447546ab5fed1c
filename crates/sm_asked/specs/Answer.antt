-- What a command comes to: what is printed, the status, what is written, and how much of the input is read for it.
use Rattle.std.specs.Prelude.{ℕ, List, Option, None}
use Rattle.sm_asked.specs.declared.status.Status.{Status}
use Rattle.sm_asked.specs.declared.status.Status.TheVariants.{Done, Refused, Usage, ReadFault, WriteFault, NoMemory, Pattern, Limit}

-- the numbers of the statuses
abbrev pub code_of : Status → ℕ
code_of Done = 0
code_of Refused = 1
code_of Usage = 2
code_of ReadFault = 3
code_of WriteFault = 4
code_of NoMemory = 5
code_of Pattern = 6
code_of Limit = 7

-- what is printed, and the status by which the program then ends
pub record Answer : Type 0 where
  pub status : Status
  pub text : List ℕ

abbrev pub done : List ℕ → Answer
done text = record { status = Done; text = text }

abbrev pub refused : List ℕ → Answer
refused line = record { status = Refused; text = line }

abbrev pub pattern_refused : List ℕ → Answer
pattern_refused line = record { status = Pattern; text = line }

abbrev pub past : List ℕ → Answer
past line = record { status = Limit; text = line }

-- how much of the input is read: none; all, to its end; a prefix, since it is longer than its limit; or as much as the command takes
pub data InputUse : Type 0 where
  untouched to_its_end past_its_limit in_part : InputUse

-- a file that is written: its name and its bytes
pub record FileWritten : Type 0 where
  pub name : List ℕ
  pub bytes : List ℕ

-- what a command comes to: its answer, what it reads of the input for it, and the file that it writes, if it writes one
pub record Came : Type 0 where
  pub answer : Answer
  pub input : InputUse
  pub written : Option FileWritten

abbrev pub came_writing : InputUse → Answer → Option FileWritten → Came
came_writing input a written = record { answer = a; input = input; written = written }

abbrev pub came : InputUse → Answer → Came
came input a = came_writing input a None
