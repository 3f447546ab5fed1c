-- The model files of a command. They are read in turn, all of them before the first is looked at.
use Rattle.std.specs.Prelude.{◌≡◌, ◌<◌, ◌≤◌, ◌+◌, ◌⊎◌, ℕ, List, [], ◌∷◌, Option, length}
use Rattle.sm_io.specs.Files.{Folder}
use Rattle.sm_load.specs.ModelFiles.{FileGiven, file_given}
use Rattle.sm_asked.specs.Answer.{Answer, past}
use Rattle.sm_asked.specs.Limits.{bytes_limit}
use Rattle.sm_asked.specs.Lines.{file_limit_line, bytes_limit_line}
use Rattle.sm_asked.specs.Stages.{FileRead, FileTooLong}

-- each of these files is there within its limit, and with so many bytes before them they are within that of all; and these are they
abbrev pub AreRead : Option Folder → ℕ → List (List ℕ) → List FileGiven → Type 0
AreRead files before [] read = read ≡ []
AreRead files before (name ∷ names) read =
    (file : FileRead files name) × (more : List FileGiven) × (read ≡ file_given name file.bytes ∷ more)
    × (before + length file.bytes ≤ bytes_limit) × AreRead files (before + length file.bytes) names more

-- the answer to the first limit that is passed: a file is too long, or with it all are
abbrev pub PassesOne : Option Folder → ℕ → List (List ℕ) → Answer → Type 0
PassesOne files before [] a = ⊥
PassesOne files before (name ∷ names) a =
    (FileTooLong files name × (a ≡ past file_limit_line))
    ⊎ ((file : FileRead files name) × (bytes_limit < before + length file.bytes) × (a ≡ past bytes_limit_line))
    ⊎ ((file : FileRead files name) × (before + length file.bytes ≤ bytes_limit) × PassesOne files (before + length file.bytes) names a)
