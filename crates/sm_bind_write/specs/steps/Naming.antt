-- Names of fields that are a prefix and a key.
use Rattle.std.specs.Prelude.{◌++◌, ℕ, Bool, false, List, Option, None, Some}
use Rattle.std.specs.Str.{bytes_eq, str_to_ascii_lowercase}

abbrev pub joined : List ℕ → List ℕ → List ℕ
joined prefix key = str_to_ascii_lowercase prefix ++ key

-- the name that there may be is this one
abbrev pub is_named : Option (List ℕ) → List ℕ → Bool
is_named None name = false
is_named (Some other) name = bytes_eq name other
