-- What files stand for, where they are told: a finite map from names to bytes, and what stands at every other name.
use Rattle.std.specs.Prelude.{◌≡◌, ◌≢◌, ◌<◌, ◌≤◌, ◌↔◌, ℕ, Bool, true, false, List, [], map, length, ⊤, IfSome, IsSomeAnd, None, Some, Ok}
use Rattle.std.specs.Prelude.{Err, Option, Result, Vec, String, string_bytes}
use Rattle.std.specs.FinMap as fin
use Rattle.std.specs.Ordering.{nat_cmp}
use Rattle.std.specs.Cmp.Lexicographic.{slice_cmp}
use Rattle.std.specs.declared.alloc.Global.{Global}
use Rattle.sm_io.specs.declared.files.FileRefusal.{FileRefusal}
use Rattle.sm_io.specs.declared.files.FileRefusal.TheVariants.{Failed, TooLong, NoMemory}

-- the bytes of files by the bytes of their names
abbrev pub FileMap : Type 0
FileMap = fin.FinMap (slice_cmp nat_cmp) (List ℕ)

-- what every other name stands for
pub data Others : Type 0 where
  nothing empty_file : Others

pub record Folder : Type 0 where
  pub named : FileMap
  pub others : Others

abbrev pub other_file : Others → Option (List ℕ)
other_file nothing = None
other_file empty_file = Some []

abbrev pub or_other : Option (List ℕ) → Others → Option (List ℕ)
or_other (Some bytes) others = Some bytes
or_other None others = other_file others

-- the bytes of the file that a name stands for, or None where it stands for nothing
abbrev pub file_at : Folder → List ℕ → Option (List ℕ)
file_at folder name = or_other (fin.get folder.named name) folder.others

-- the names and bytes of these files, in order
abbrev pub entries : List (String Global × Vec ℕ Global) → List (List ℕ × List ℕ)
entries files = map (λ file. (string_bytes file.0, file.1.items)) files

-- these files by their names; of two with one name the first counts
abbrev pub file_map : List (String Global × Vec ℕ Global) → FileMap
file_map files = fin.from_entries (entries files)

abbrev pub folder_of : List (String Global × Vec ℕ Global) → Others → Folder
folder_of files others = record { named = file_map files; others = others }

-- the folder with a file of these bytes under the name, in place of what the name stood for
abbrev pub with_file : Folder → List ℕ → List ℕ → Folder
with_file folder name bytes = record { named = fin.insert folder.named name bytes; others = folder.others }

-- where told, the name stands for these bytes, or for nothing
abbrev pub Holds : Option Folder → List ℕ → Option (List ℕ) → Type 0
Holds told name content = IfSome told (λ folder. file_at folder name ≡ content)

-- where told, the name stands for a file of more bytes than the limit
abbrev pub HoldsLonger : Option Folder → List ℕ → ℕ → Type 0
HoldsLonger told name limit = IfSome told (λ folder. IsSomeAnd (file_at folder name) (λ bytes. limit < length bytes))

-- where told, every other name stands for what it stood for
abbrev pub KeepsOthers : Option Folder → Option Folder → List ℕ → Type 0
KeepsOthers None now name = ⊤
KeepsOthers (Some folder) now name = IsSomeAnd now (λ later. (other : List ℕ) → other ≢ name → file_at later other ≡ file_at folder other)

-- the file's bytes were given; or they are more than the limit
abbrev pub ReadsFile : Option Folder → List ℕ → ℕ → Result (Vec ℕ Global) FileRefusal → Type 0
ReadsFile told name limit (Ok bytes) = Holds told name (Some bytes.items) × (length bytes.items ≤ limit)
ReadsFile told name limit (Err Failed) = ⊤
ReadsFile told name limit (Err TooLong) = HoldsLonger told name limit
ReadsFile told name limit (Err NoMemory) = ⊤

-- the name stands for the bytes now; after a fault, or where memory ran out, that one name may stand for anything
abbrev pub WritesFile : Option Folder → Option Folder → List ℕ → List ℕ → Result (Unit {0}) FileRefusal → Type 0
WritesFile told now name bytes (Ok done) = Holds now name (Some bytes) × KeepsOthers told now name
WritesFile told now name bytes (Err Failed) = KeepsOthers told now name
WritesFile told now name bytes (Err TooLong) = ⊥
WritesFile told now name bytes (Err NoMemory) = KeepsOthers told now name

-- the answer tells of a fault
abbrev pub file_failed : {A : Type 0} → Result A FileRefusal → Bool
file_failed (Ok done) = false
file_failed (Err Failed) = true
file_failed (Err TooLong) = false
file_failed (Err NoMemory) = false

-- the same names are let
abbrev pub LetsSame : (List ℕ → Type 0) → (List ℕ → Type 0) → Type 0
LetsSame before now = (name : List ℕ) → before name ↔ now name
