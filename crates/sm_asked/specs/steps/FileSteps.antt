-- What reading a file comes to.
use Rattle.std.specs.Prelude.{◌≡◌, ℕ, ◌≤◌, List, Option, Some, Result, Ok, Err, length}
use Rattle.std.specs.Global.{Vec}
use Rattle.sm_io.specs.Causes.{Rose}
use Rattle.sm_io.specs.Files.{Folder, Holds}
use Rattle.sm_io.specs.Seen.{FilesSeen}
use Rattle.sm_asked.specs.Answer.{Answer, past}
use Rattle.sm_asked.specs.Limits.{file_limit}
use Rattle.sm_asked.specs.Lines.{file_limit_line}
use Rattle.sm_asked.specs.Stages.{FileTooLong}
use Rattle.sm_asked.specs.Comes.{StepStops}
use Rattle.sm_asked.specs.declared.stop.CommandStop.{CommandStop}

-- the file of the name is too long, and this is the answer
abbrev pub PassesLimit : Option Folder → List ℕ → Answer → Type 0
PassesLimit files name a = FileTooLong files name × (a ≡ past file_limit_line)

-- the bytes of the file of the name, which are within the limit; or the answer to one that is too long
abbrev pub OpensFile : FilesSeen → FilesSeen → List ℕ → Result (Vec ℕ) CommandStop → Type 0
OpensFile files files1 name (Ok file) = Holds files.held name (Some file.items) × (length file.items ≤ file_limit)
OpensFile files files1 name (Err stop) = StepStops (PassesLimit files.held name) (Rose files.read_faults files1.read_faults) (Unit {0}) stop
