-- What a fill of the bytes held does.
use Rattle.std.specs.Prelude.{◌≡◌, ℕ, ◌+◌, List, ◌++◌, length, take, Option, Result, Ok, Err}
use Rattle.std.specs.Io.KnownBytes.{Keeps, Consumes, IsAtEnd}
use Rattle.sm_io.specs.declared.source.Failed.{Failed as Fault}
use Rattle.sm_http.specs.declared.held.Unfilled.{Unfilled}
use Rattle.sm_http.specs.declared.held.Unfilled.TheVariants.{Failed, NoMemory}

abbrev pub Fills : Option (List ℕ) → Option (List ℕ) → List ℕ → List ℕ → Result ℕ Unfilled → Type 0
Fills left rest before now (Ok count) =
    (taken : List ℕ) × Consumes left rest taken × (now ≡ before ++ taken) × (length taken ≡ count) × (count ≡ 0 → IsAtEnd rest)
Fills left rest before now (Err Failed) = Keeps left rest × (now ≡ before)
Fills left rest before now (Err NoMemory) = Keeps left rest × (now ≡ before)

-- the same for room of which the first bytes are used
abbrev pub FillsRoom : Option (List ℕ) → Option (List ℕ) → ℕ → List ℕ → List ℕ → Result ℕ Fault → Type 0
FillsRoom left rest used before now (Ok count) = Fills left rest (take used before) (take (used + count) now) (Ok count)
FillsRoom left rest used before now (Err fault) = Keeps left rest × (take used now ≡ take used before)
