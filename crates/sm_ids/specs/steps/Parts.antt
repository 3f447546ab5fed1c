-- Where the parts of an id end in its text.
use Rattle.std.specs.Prelude.{◌≡◌, ◌+◌, ℕ, List, length, Result, Ok, Err}
use Rattle.sm_ids.specs.declared.scan.Ends.{Ends}
use Rattle.sm_ids.specs.IdText.{Id, IdText, IsIdText, BreaksAt}

-- the text spells an id whose namespace and name end at these places
pub record HasParts (text : List ℕ) (ends : Ends) : Type 0 where
  pub id : Id
  pub spells : IdText id text
  pub namespace : length id.namespace ≡ ends.namespace
  pub name : length id.namespace + 1 + length id.name ≡ ends.name

-- where the parts end, or where the bytes break
abbrev pub TakesId : List ℕ → Result Ends ℕ → Type 0
TakesId bytes (Ok ends) = HasParts bytes ends
TakesId bytes (Err at) = BreaksAt IsIdText bytes at
