-- Names that came so far, in a set; and what a token says as a key.
use Rattle.std.specs.Prelude.{◌≡◌, ◌↔◌, ℕ, true, List, Option, Some, None, Result, Ok, Err}
use Rattle.std.specs.BTreeSet.{BTreeSet, contains_text}
use Rattle.std.specs.declared.alloc.Global.{Global}
use Rattle.std.specs.declared.string.String.{String}
use Rattle.sm_lex.specs.Tokens.{Lexeme}
use Rattle.sm_bytes.specs.declared.no_memory.NoMemory.{NoMemory}
use Rattle.sm_model.specs.Formed.{StandsAmong}
use Rattle.sm_idl.specs.Words.{IsKey}

-- the set has these names, and no other
abbrev pub Remembers : BTreeSet (String Global) → List (List ℕ) → Type 0
Remembers set before = (k : List ℕ) → (contains_text set k ≡ true) ↔ StandsAmong k before

-- the key that a token is, if it is one
abbrev pub SaysKey : Lexeme → Result (Option (List ℕ)) NoMemory → Type 0
SaysKey t (Ok (Some k)) = IsKey k t
SaysKey t (Ok None) = (k : List ℕ) → IsKey k t → ⊥
SaysKey t (Err refusal) = Unit {0}
