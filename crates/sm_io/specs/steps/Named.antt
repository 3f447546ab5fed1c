-- The files that the objects over memory keep, by name.
use Rattle.std.specs.Prelude.{◌≡◌, ◌≢◌, ◌<◌, ℕ, List, length, slice_index_or, None, Some, Option, Vec, String, string_bytes}
use Rattle.std.specs.declared.alloc.Global.{Global}
use Rattle.sm_io.specs.Files.{FileMap, file_map}
use Rattle.sm_io.specs.declared.named.NamedFiles.{NamedFiles}

-- the allocator for copies
abbrev pub alloc_of : NamedFiles → Global
alloc_of files = files.alloc

-- the files by name, in the order in which they are kept
abbrev pub files_of : NamedFiles → List (String Global × Vec ℕ Global)
files_of files = files.files.items

abbrev pub map_of : NamedFiles → FileMap
map_of files = file_map (files_of files)

-- none of the first files has this name
abbrev pub NoneNamed : List (String Global × Vec ℕ Global) → ℕ → List ℕ → Type 0
NoneNamed files count name = (k : ℕ) (file : String Global × Vec ℕ Global) → k < count → string_bytes (slice_index_or files k file).0 ≢ name

-- the first file of this name stands there, or there is none
abbrev pub IsFilePlace : List (String Global × Vec ℕ Global) → List ℕ → Option ℕ → Type 0
IsFilePlace files name None = NoneNamed files (length files) name
IsFilePlace files name (Some place) = (place < length files) × NoneNamed files place name
    × ((file : String Global × Vec ℕ Global) → string_bytes (slice_index_or files place file).0 ≡ name)
