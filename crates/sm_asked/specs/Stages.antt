-- How far a command has come, over bytes alone. Each stage holds the one before it, so no condition is said twice: a
-- refusal takes the last stage that was reached, and its own cause.
use Rattle.std.specs.Prelude.{◌≡◌, ℕ, ◌<◌, ◌≤◌, List, Option, Some, IfSome, length}
use Rattle.sm_io.specs.Files.{Folder, Holds}
use Rattle.sm_shapes.specs.Fitting.{Test}
use Rattle.sm_compile.specs.Answers.{StoreSeen}
use Rattle.sm_asked.specs.Limits.{file_limit}

-- what a run is told where it begins: its files, the bytes of its input, its store of patterns with its test; and the pattern that the
-- store refuses in this run, if it refuses one
pub record Told : Type 0 where
  pub files : Option Folder
  pub input : Option (List ℕ)
  pub test : Test
  pub store : StoreSeen
  pub refused : Option (List ℕ)

abbrev pub told : Option Folder → Option (List ℕ) → Test → StoreSeen → Option (List ℕ) → Told
told files input test store refused = record { files = files; input = input; test = test; store = store; refused = refused }

-- where told, these are the bytes of the input
abbrev pub IsInput : Option (List ℕ) → List ℕ → Type 0
IsInput input bytes = IfSome input (λ all. all ≡ bytes)

-- a file of this name is there, and is within its limit
pub record FileRead (files : Option Folder) (name : List ℕ) : Type 0 where
  pub bytes : List ℕ
  pub held : Holds files name (Some bytes)
  pub within : length bytes ≤ file_limit

-- or is there, and is longer
pub record FileTooLong (files : Option Folder) (name : List ℕ) : Type 0 where
  pub bytes : List ℕ
  pub held : Holds files name (Some bytes)
  pub long : file_limit < length bytes
