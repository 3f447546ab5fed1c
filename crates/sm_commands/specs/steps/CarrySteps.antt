-- What carrying out a command leaves of files.
use Rattle.std.specs.Prelude.{◌≡◌, ℕ, List, [], Option, Contains}
use Rattle.sm_io.specs.Files.{Folder}
use Rattle.sm_model_commands.specs.asked.CommandAsked.{CommandAsked}
use Rattle.sm_cross_command.specs.asked_ends.AskedEnds.{StandsAsBefore}

-- what it doesn't name to be written is as it was
abbrev pub KeepsUnnamed : CommandAsked → Option Folder → Option Folder → Type 0
KeepsUnnamed asked before after = (name : List ℕ) → (Contains asked.writes name → ⊥) → StandsAsBefore before after name

-- this holds where it names no file to be written
abbrev pub NamingNone : CommandAsked → Type 0 → Type 0
NamingNone asked P = asked.writes ≡ [] → P
