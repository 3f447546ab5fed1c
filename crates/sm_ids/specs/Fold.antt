-- Equality without regard to ASCII case: each letter counts as its small one, and any other byte as itself.
use Rattle.std.specs.Prelude.{◌≡◌, ℕ, List, map}
use Rattle.std.specs.Char.{to_ascii_lowercase}

abbrev pub FoldsTo : List ℕ → List ℕ → Type 0
FoldsTo a b = map to_ascii_lowercase a ≡ map to_ascii_lowercase b
