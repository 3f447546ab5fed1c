-- What may stand in an id's text from the start of an identifier on, for each part of the id, and what the scanner's
-- functions answer.
use Rattle.std.specs.Prelude.{◌≡◌, ◌==◌, ◌-◌, ◌<◌, ◌≤◌, ℕ, Bool, false, List, [], ◌∷◌, ◌++◌, length, take, drop, slice_index, slice_range}
use Rattle.std.specs.Prelude.{Option, Result, Ok, Err}
use Rattle.std.specs.Option.{ForSome}
use Rattle.sm_bytes.specs.Ascii.{number_sign, underscore}
use Rattle.sm_ids.specs.Identifier.{is_identifier_byte, IsIdentifier, IsNamespace}
use Rattle.sm_ids.specs.IdText.{member_text, IsIdText, BreaksAt}

-- the part of an id in which an identifier is to come
pub data Part : Type 0 where
  in_namespace : Part
  in_name : Part
  in_member : Part

-- a name, and a member behind it or none
pub record NameAhead (u : List ℕ) : Type 0 where
  pub name : List ℕ
  pub member : Option (List ℕ)
  pub is_name : IsIdentifier name
  pub is_member : ForSome member IsIdentifier
  pub spelled : u ≡ name ++ member_text member

abbrev pub Ahead : Part → List ℕ → Type 0
Ahead in_namespace u = IsIdText u
Ahead in_name u = NameAhead u
Ahead in_member u = IsIdentifier u

-- a run of bytes that pass the test ends before these: there are none, or the first fails it
abbrev pub EndsRun : (ℕ → Bool) → List ℕ → Type 0
EndsRun test [] = Unit {0}
EndsRun test (c ∷ cs) = test c ≡ false

abbrev pub is_underscore : ℕ → Bool
is_underscore c = c == underscore

-- an identifier from one place to another, the longest that stands there
pub record IsIdentifierFrom (bytes : List ℕ) (from to : ℕ) : Type 0 where
  pub above : from ≤ to
  pub within : to ≤ length bytes
  pub identifier : IsIdentifier (slice_range bytes from to)
  pub ends : EndsRun is_identifier_byte (drop to bytes)

-- where the identifier ends that stands from a place on, or up to where one may have begun there
abbrev pub TakesIdentifier : List ℕ → ℕ → Result ℕ ℕ → Type 0
TakesIdentifier bytes from (Ok to) = IsIdentifierFrom bytes from to
TakesIdentifier bytes from (Err at) = (from ≤ at) × ((part : Part) → BreaksAt (Ahead part) (drop from bytes) (at - from))

-- a namespace at the start and a `#` behind it
pub record IsNamespaceTo (bytes : List ℕ) (to : ℕ) : Type 0 where
  pub within : to < length bytes
  pub namespace : IsNamespace (take to bytes)
  pub hash : slice_index bytes to ≡ number_sign

-- where the namespace at the start ends, or where the bytes break
abbrev pub TakesNamespace : List ℕ → Result ℕ ℕ → Type 0
TakesNamespace bytes (Ok to) = IsNamespaceTo bytes to
TakesNamespace bytes (Err at) = BreaksAt IsIdText bytes at
