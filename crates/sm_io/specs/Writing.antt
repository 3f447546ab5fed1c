-- What a write does to the bytes that a sink holds, where the sink tells them.
use Rattle.std.specs.Prelude.{ℕ, Bool, true, false, List, take, Ok, Err, Option, Result}
use Rattle.std.specs.Io.KnownBytes.{Keeps, Appends}
use Rattle.sm_io.specs.declared.sink.PutRefusal.{PutRefusal}
use Rattle.sm_io.specs.declared.sink.PutRefusal.TheVariants.{Failed, NoMemory}

-- the bytes written grew by the first bytes of the piece, none and all among them
abbrev pub AppendsPrefix : Option (List ℕ) → Option (List ℕ) → List ℕ → Type 0
AppendsPrefix old new piece = (count : ℕ) × Appends old new (take count piece)

-- the whole piece was written; a fault may have written a prefix of it, and nothing was written where memory ran out
abbrev pub Puts : Option (List ℕ) → Option (List ℕ) → List ℕ → Result (Unit {0}) PutRefusal → Type 0
Puts old new piece (Ok done) = Appends old new piece
Puts old new piece (Err Failed) = AppendsPrefix old new piece
Puts old new piece (Err NoMemory) = Keeps old new

-- the answer tells of a fault
abbrev pub put_failed : Result (Unit {0}) PutRefusal → Bool
put_failed (Ok done) = false
put_failed (Err Failed) = true
put_failed (Err NoMemory) = false
