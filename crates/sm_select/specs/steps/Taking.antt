-- The token of some kind that stands at the start of a text: the longest, or that none does.
use Rattle.std.specs.Prelude.{◌≡◌, ◌⊎◌, ◌≤◌, ◌||◌, ◌&&◌, ℕ, Bool, false, List, [], ◌∷◌, ◌++◌, length, take, drop, Option, Some, None}
use Rattle.std.specs.Prelude.{Result, Ok}
use Rattle.std.specs.Prelude.{Err}
use Rattle.sm_ids.specs.Identifier.{IsIdentifier}
use Rattle.sm_ids.specs.IdText.{IsIdText}
use Rattle.sm_tree.specs.NumberTail.{NumberTail}
use Rattle.sm_tree.specs.declared.number.Phase.{Phase}
use Rattle.sm_bytes.specs.Ascii.{dollar}
use Rattle.sm_select.specs.Tokens.{Token, word, quoted, numeral, IsFree, SkipsWhite, TokenThen, begins_run, is_run_byte}
use Rattle.sm_select.specs.SelectorText.{IsRun}
use Rattle.sm_select.specs.steps.Places.{Place, IsStepping, Leads, ReadAs, key, trait, value}
use Rattle.sm_select.specs.steps.Signs.{goes_on_with_run}
use Rattle.sm_select.specs.declared.parser_taken.Taken.{Taken}
use Rattle.sm_select.specs.declared.refusal.SelectorRefusal.{SelectorRefusal}
use Rattle.sm_select.specs.declared.refusal.SelectorRefusal.TheVariants.{Syntax, OutOfProfile, NoMemory}

-- kinds of tokens, with what is read of them
abbrev pub IsQuotedToken : List ℕ → Token → Type 0
IsQuotedToken v t = t ≡ quoted v

abbrev pub IsNumeralToken : List ℕ → Token → Type 0
IsNumeralToken v t = t ≡ numeral v

abbrev pub IsIdToken : List ℕ → Token → Type 0
IsIdToken v t = IsIdText v × (t ≡ word v)

abbrev pub IsIdentifierToken : List ℕ → Token → Type 0
IsIdentifierToken v t = IsIdentifier v × (t ≡ word v)

abbrev pub IsValueToken : List ℕ → Token → Type 0
IsValueToken v t = ReadAs (value v) t

abbrev pub IsKeyToken : List ℕ → Token → Type 0
IsKeyToken v t = ReadAs (key v) t

abbrev pub IsTraitToken : List ℕ → Token → Type 0
IsTraitToken v t = ReadAs (trait v) t

-- s begins with such a token, of which v is read, and then b stands; no such token is longer
pub record TakenAs (K : List ℕ → Token → Type 0) (v s b : List ℕ) : Type 0 where
  pub token : Token
  pub kind : K v token
  pub then : TokenThen token s b
  pub longest : (w : List ℕ) (u : Token) (c : List ℕ) → K w u → TokenThen u s c → length b ≤ length c

-- no such token stands there
abbrev pub NoneAs : (List ℕ → Token → Type 0) → List ℕ → Type 0
NoneAs K s = (w : List ℕ) (u : Token) (c : List ℕ) → K w u → TokenThen u s c → ⊥

abbrev pub IsTaken : (List ℕ → Token → Type 0) → List ℕ → Option Taken → Type 0
IsTaken K s (Some taken) = TakenAs K taken.text.now s taken.behind.now
IsTaken K s None = NoneAs K s

-- behind the run that stands first, a `$` and the run m stand, and then b
pub record IsMemberRun (s run m b : List ℕ) : Type 0 where
  pub spelled : drop (length run) s ≡ dollar ∷ (m ++ b)
  pub of_run : IsRun m (m ++ b) b

-- the run, a `$` and a run; or that none stands so
abbrev pub IsLongerWord : List ℕ → List ℕ → Option Taken → Type 0
IsLongerWord s run (Some taken) =
    (m : List ℕ) × (taken.text.now ≡ run ++ dollar ∷ m) × (s ≡ taken.text.now ++ taken.behind.now)
    × IsMemberRun s run m taken.behind.now
IsLongerWord s run None = (m c : List ℕ) → drop (length run) s ≡ dollar ∷ (m ++ c) → IsIdentifier m → ⊥

-- the run and what stands behind it, where it is an id
abbrev pub IsRunId : List ℕ → List ℕ → Option Taken → Type 0
IsRunId s run (Some taken) = IsIdText run × (taken.text.now ≡ run) × (taken.behind.now ≡ drop (length run) s)
IsRunId s run None = IsIdText run → ⊥

-- quoted text by this mark
abbrev pub IsQuotedAt : ℕ → List ℕ → Option Taken → Type 0
IsQuotedAt mark s (Some taken) = (s ≡ mark ∷ (taken.text.now ++ mark ∷ taken.behind.now)) × IsFree mark taken.text.now
IsQuotedAt mark s None = (v c : List ℕ) → s ≡ mark ∷ (v ++ mark ∷ c) → IsFree mark v → ⊥

-- a copy of a text was made, and what stands behind it is left
abbrev pub IsCopy : List ℕ → List ℕ → List ℕ → Result (List ℕ) SelectorRefusal → Type 0
IsCopy v b r (Ok copy) = (copy ≡ v) × SkipsWhite b r
IsCopy v b r (Err (Syntax at)) = ⊥
IsCopy v b r (Err (OutOfProfile at)) = ⊥
IsCopy v b r (Err NoMemory) = Unit {0}

-- from the place lead exactly such tokens, and where to is said by what is read of them
pub record LeadsBy (K : List ℕ → Token → Type 0) (p : Place) (next : List ℕ → Place) : Type 0 where
  pub leads : (v : List ℕ) (t : Token) → K v t → Leads p t (next v)
  pub only : (t : Token) (n : Place) → Leads p t n → (v : List ℕ) × K v t
  pub flat : IsStepping p → ⊥

-- whether bytes end in a run, byte by byte
abbrev pub run_after : Bool → ℕ → Bool
run_after going c = begins_run c || (going && is_run_byte c)

abbrev pub run_open : Bool → List ℕ → Bool
run_open going [] = going
run_open going (c ∷ s) = run_open (run_after going c) s

-- a number that has come so far may end before these bytes
abbrev pub EndsHere : Phase → Bool → List ℕ → Type 0
EndsHere phase in_run behind = NumberTail phase [] × ((in_run && goes_on_with_run behind) ≡ false)

-- of the numbers that stand first and have up to `at` bytes, the longest has this length
pub record IsLongestTo (s : List ℕ) (at len : ℕ) : Type 0 where
  pub within : len ≤ at
  pub found : (len ≡ 0) ⊎ TokenThen (numeral (take len s)) s (drop len s)
  pub longest : (v c : List ℕ) → TokenThen (numeral v) s c → length v ≤ at → length v ≤ len

-- of all
pub record IsLongestNumber (s : List ℕ) (len : ℕ) : Type 0 where
  pub within : len ≤ length s
  pub found : (len ≡ 0) ⊎ TokenThen (numeral (take len s)) s (drop len s)
  pub longest : (v c : List ℕ) → TokenThen (numeral v) s c → length v ≤ len
