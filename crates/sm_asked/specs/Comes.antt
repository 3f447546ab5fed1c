-- What the steps of a command come to: an answer, or why it ends before.
use Rattle.std.specs.Prelude.{◌≡◌, ℕ, List, Option, Result, Ok, Err}
use Rattle.std.specs.Global.{Vec}
use Rattle.sm_io.specs.Causes.{Rose}
use Rattle.sm_io.specs.Files.{Folder}
use Rattle.sm_io.specs.Seen.{FilesSeen}
use Rattle.sm_asked.specs.Answer.{Answer, done, refused, pattern_refused, past}
use Rattle.sm_asked.specs.CommandAsked.{CommandAsked, Answers, ReadFails, StopsShort}
use Rattle.sm_asked.specs.Outside.{InputsSeen}
use Rattle.sm_asked.specs.declared.stop.CommandStop.{CommandStop}
use Rattle.sm_asked.specs.declared.stop.CommandStop.TheVariants.{Refused, Pattern, Limit, ReadFault, NoMemory}

-- the step ends the command: with an answer of which this holds, by a failed read, or out of memory
abbrev pub StepStops : (Answer → Type 0) → Type 0 → Type 0 → CommandStop → Type 0
StepStops Says Failed Short (Refused line) = Says (refused line.items)
StepStops Says Failed Short (Pattern line) = Says (pattern_refused line.items)
StepStops Says Failed Short (Limit line) = Says (past line.items)
StepStops Says Failed Short ReadFault = Failed
StepStops Says Failed Short NoMemory = Short

-- the same of a step that may come to what is printed where the work is done
abbrev pub StepComesTo : (Answer → Type 0) → Type 0 → Type 0 → Result (Vec ℕ) CommandStop → Type 0
StepComesTo Says Failed Short (Ok text) = Says (done text.items)
StepComesTo Says Failed Short (Err stop) = StepStops Says Failed Short stop

-- the command ends with this line, or out of memory
abbrev pub EndsWithLine : List ℕ → CommandStop → Type 0
EndsWithLine line (Refused printed) = printed.items ≡ line
EndsWithLine line (Pattern printed) = ⊥
EndsWithLine line (Limit printed) = ⊥
EndsWithLine line ReadFault = ⊥
EndsWithLine line NoMemory = Unit {0}

-- it ends at a pattern that was refused with this line, or out of memory
abbrev pub EndsWithPattern : List ℕ → CommandStop → Type 0
EndsWithPattern line (Refused printed) = ⊥
EndsWithPattern line (Pattern printed) = printed.items ≡ line
EndsWithPattern line (Limit printed) = ⊥
EndsWithPattern line ReadFault = ⊥
EndsWithPattern line NoMemory = Unit {0}

-- it ends at a limit with this line, or out of memory
abbrev pub EndsWithLimit : List ℕ → CommandStop → Type 0
EndsWithLimit line (Refused printed) = ⊥
EndsWithLimit line (Pattern printed) = ⊥
EndsWithLimit line (Limit printed) = printed.items ≡ line
EndsWithLimit line ReadFault = ⊥
EndsWithLimit line NoMemory = Unit {0}

-- what a whole command comes to
abbrev pub CommandComesTo : InputsSeen → InputsSeen → CommandAsked → Result (Vec ℕ) CommandStop → Type 0
CommandComesTo before after asked result =
    StepComesTo (Answers before after asked) (ReadFails before after asked) (StopsShort before after asked) result

-- and one that reads files alone
abbrev pub FilesComeTo : (Option Folder → Answer → Type 0) → FilesSeen → FilesSeen → Result (Vec ℕ) CommandStop → Type 0
FilesComeTo FilesSay files files1 result =
    StepComesTo (FilesSay files.held) (Rose files.read_faults files1.read_faults) (Unit {0}) result
