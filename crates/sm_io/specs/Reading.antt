-- What a read does to the bytes that a source has left, where the source tells them.
use Rattle.std.specs.Prelude.{◌≡◌, ◌<◌, ◌≤◌, ℕ, List, length, take, IfSome, Ok, Err, Option, Result, Vec}
use Rattle.std.specs.declared.alloc.Global.{Global}
use Rattle.std.specs.Io.KnownBytes.{Keeps, Consumes, IsAtEnd}
use Rattle.sm_io.specs.declared.reading.ReadRefusal.{ReadRefusal}
use Rattle.sm_io.specs.declared.reading.ReadRefusal.TheVariants.{Failed, TooLong, NoMemory}

-- the next bytes were moved to the start of the buffer, and none only at the end; a fault moved nothing
abbrev pub TakesBytes : {E : Type 0} → Option (List ℕ) → Option (List ℕ) → List ℕ → Result ℕ E → Type 0
TakesBytes left rest buffer (Ok count) = Consumes left rest (take count buffer) × (count ≡ 0 → IsAtEnd rest)
TakesBytes left rest buffer (Err fault) = Keeps left rest

-- the bytes left were these, and now none is left
abbrev pub Empties : Option (List ℕ) → Option (List ℕ) → List ℕ → Type 0
Empties left rest bytes = Consumes left rest bytes × IsAtEnd rest

-- a prefix of the bytes, perhaps none, is no longer left
abbrev pub LosesPrefix : Option (List ℕ) → Option (List ℕ) → Type 0
LosesPrefix left rest = (prefix : List ℕ) × Consumes left rest prefix

-- all bytes left were read; or they are more than the limit; or a fault, or that memory ran out, stopped the read
abbrev pub ReadsAll : Option (List ℕ) → Option (List ℕ) → ℕ → Result (Vec ℕ Global) ReadRefusal → Type 0
ReadsAll left rest limit (Ok bytes) = Empties left rest bytes.items × (length bytes.items ≤ limit)
ReadsAll left rest limit (Err Failed) = LosesPrefix left rest
ReadsAll left rest limit (Err TooLong) = IfSome left (λ bytes. limit < length bytes) × LosesPrefix left rest
ReadsAll left rest limit (Err NoMemory) = LosesPrefix left rest
