-- What is seen of the outside at one moment: of a stream of bytes, of files, and of a link between two peers.
use Rattle.std.specs.Prelude.{ℕ, List, Option}
use Rattle.sm_io.specs.Causes.{Quiet}
use Rattle.sm_io.specs.Files.{Folder}

-- the bytes that a source has left, or that a sink holds, where they are told, and its count of faults
pub record Stream : Type 0 where
  pub bytes : Option (List ℕ)
  pub faults : ℕ

-- what the names of files stand for, where it is told, and the counts of failed reads and writes
pub record FilesSeen : Type 0 where
  pub held : Option Folder
  pub read_faults : ℕ
  pub write_faults : ℕ

-- neither count of files rose in between
pub record QuietFiles (before now : FilesSeen) : Type 0 where
  pub reads : Quiet before.read_faults now.read_faults
  pub writes : Quiet before.write_faults now.write_faults

-- the four streams of a link: the front asks, the back answers, and each is read and written
pub record LinkSeen : Type 0 where
  pub front_in : Stream
  pub front_out : Stream
  pub back_in : Stream
  pub back_out : Stream

abbrev pub stream : Option (List ℕ) → ℕ → Stream
stream bytes faults = record { bytes = bytes; faults = faults }

abbrev pub files_seen : Option Folder → ℕ → ℕ → FilesSeen
files_seen held read_faults write_faults = record { held = held; read_faults = read_faults; write_faults = write_faults }

abbrev pub link_seen : Stream → Stream → Stream → Stream → LinkSeen
link_seen front_in front_out back_in back_out =
    record { front_in = front_in; front_out = front_out; back_in = back_in; back_out = back_out }
