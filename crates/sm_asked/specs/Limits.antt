-- The greatest numbers and lengths of what is read. Lengths are in bytes.
use Rattle.std.specs.Prelude.{ℕ}

-- model files of one command
abbrev pub files_limit : ℕ
files_limit = 64

-- of a model file
abbrev pub file_limit : ℕ
file_limit = 4194304

-- of all model files of one command together
abbrev pub bytes_limit : ℕ
bytes_limit = 33554432

-- of an input
abbrev pub body_limit : ℕ
body_limit = 1048576
