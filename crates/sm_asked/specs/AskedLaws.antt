-- What holds of whatever is asked: it comes to one thing, it comes to some, and it reads the input for none but those behind its stage.
use Rattle.std.specs.Prelude.{◌≡◌, ◌⊎◌, ℕ, true, List, Some, Contains}
use Rattle.sm_io.specs.Files.{Folder, file_at}
use Rattle.sm_asked.specs.Answer.{Came, FileWritten}
use Rattle.sm_asked.specs.Answer.InputUse.{untouched}
use Rattle.sm_asked.specs.CommandAsked.{CommandAsked}
use Rattle.sm_asked.specs.Stages.{Told}

-- the files and the input are told, by all their bytes
pub record TellsAll (t : Told) (folder : Folder) (bytes : List ℕ) : Type 0 where
  pub files : t.files ≡ Some folder
  pub input : t.input ≡ Some bytes

-- what is told so determines what it comes to
abbrev pub ComesToOne : CommandAsked → Type 0
ComesToOne asked = (t : Told) (folder : Folder) (input : List ℕ) (c d : Came) → TellsAll t folder input → asked.says t c → asked.says t d
    → c ≡ d

-- there is a file of each of these names
abbrev pub AreThere : Folder → List (List ℕ) → Type 0
AreThere folder names = (name : List ℕ) → Contains names name → (file : List ℕ) × (file_at folder name ≡ Some file)

-- where the files are there that it may read, it comes to something, said by two denials. So no gap in what is said is left to `NoMemory`
abbrev pub ComesToSome : CommandAsked → Type 0
ComesToSome asked = (t : Told) (folder : Folder) (input : List ℕ) → TellsAll t folder input → AreThere folder asked.reads
    → ((c : Came) → asked.says t c → ⊥) → ⊥

-- it comes to what it says with the input untouched, or reaches the input; and it reaches it only where it is one that touches it
abbrev pub ReachesInput : CommandAsked → Type 0
ReachesInput asked = (t : Told)
    → ((c : Came) → asked.says t c → (c.input ≡ untouched) ⊎ asked.reaches t) × (asked.reaches t → asked.touches_input ≡ true)

-- it writes no file but those that it names
abbrev pub WritesAsNamed : CommandAsked → Type 0
WritesAsNamed asked = (t : Told) (c : Came) (file : FileWritten) → asked.says t c → c.written ≡ Some file → Contains asked.writes file.name
