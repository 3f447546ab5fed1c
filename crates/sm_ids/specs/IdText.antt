-- Shape ids, and the texts that spell them: Smithy 2.0 ("The Smithy model", section "Shape ID", the ABNF of
-- absolute shape ids).
use Rattle.std.specs.Prelude.{◌≡◌, ◌≤◌, ℕ, List, [], ◌∷◌, ◌++◌, take, length, Option, Some, None}
use Rattle.std.specs.Option.{ForSome}
use Rattle.sm_bytes.specs.Ascii.{number_sign, dollar}
use Rattle.sm_ids.specs.Identifier.{IsIdentifier, IsNamespace}

-- a shape, or a member of one, by the texts of its parts
pub record Id : Type 0 where
  pub namespace : List ℕ
  pub name : List ℕ
  pub member : Option (List ℕ)

-- each part is what the grammar wants there
pub record IsId (id : Id) : Type 0 where
  pub namespace : IsNamespace id.namespace
  pub name : IsIdentifier id.name
  pub member : ForSome id.member IsIdentifier

-- ["$" Identifier]
abbrev pub member_text : Option (List ℕ) → List ℕ
member_text None = []
member_text (Some member) = dollar ∷ member

-- the text that is printed for an id: Namespace "#" Identifier ["$" Identifier]
abbrev pub printed : Id → List ℕ
printed id = id.namespace ++ number_sign ∷ (id.name ++ member_text id.member)

-- the text spells the id
pub record IdText (id : Id) (text : List ℕ) : Type 0 where
  pub is_id : IsId id
  pub spelled : text ≡ printed id

-- the text spells some id
abbrev pub IsIdText : List ℕ → Type 0
IsIdText text = (id : Id) × IdText id text

-- the text is the id of a shape, without a member
abbrev pub IsShapeId : List ℕ → Type 0
IsShapeId text = (id : Id) × IdText id text × (id.member ≡ None)

-- Identifier ["$" Identifier]: an id without its namespace
abbrev pub IsRelativeId : List ℕ → Type 0
IsRelativeId text = (name : List ℕ) × (m : Option (List ℕ)) × IsIdentifier name × ForSome m IsIdentifier × (text ≡ name ++ member_text m)

-- these bytes begin some text of a kind: some continuation is one
abbrev pub BeginsText : (List ℕ → Type 0) → List ℕ → Type 0
BeginsText IsText bytes = (more : List ℕ) × IsText (bytes ++ more)

-- the bytes are no text of a kind, and the first `at` of them are the most that begin one
pub record BreaksAt (IsText : List ℕ → Type 0) (bytes : List ℕ) (at : ℕ) : Type 0 where
  pub none : IsText bytes → ⊥
  pub within : at ≤ length bytes
  pub begun : BeginsText IsText (take at bytes)
  pub most : (n : ℕ) → n ≤ length bytes → BeginsText IsText (take n bytes) → n ≤ at
