-- The keys of the pairs of services and resources, and pairs of references and of new names.
use Rattle.std.specs.Prelude.{◌≡◌, ◌⊎◌, ℕ, Bool, true, false, List, Option, Some, None}
use Rattle.sm_ids.specs.Identifier.{IsIdentifier}
use Rattle.sm_ids.specs.IdText.{IsIdText}
use Rattle.sm_lex.specs.Tokens.{Lexeme}
use Rattle.sm_tree.specs.Node.{text}
use Rattle.sm_model.specs.Raw.{Raw, raw_leaf}
use Rattle.sm_model.specs.RawView.{raw_view}
use Rattle.sm_model.specs.declared.raw.RawNode.{RawNode}
use Rattle.sm_idl.specs.Productions.{Production, one}
use Rattle.sm_idl.specs.Words.{IsString, IsBlock, IsKey, IsNew}
use Rattle.sm_idl.specs.Nodes.{Home, Pair, pair_names, pair_of}
use Rattle.sm_idl.specs.Bodies.{reference, renaming}

-- a key that is an id
abbrev pub IsIdKey : List Pair → Lexeme → List ℕ → Type 0
IsIdKey before t k = IsKey k t × IsIdText k × IsNew k (pair_names before)

abbrev pub id_key : List Pair → Production (List ℕ)
id_key before = one (IsIdKey before)

-- a token that is a new name
abbrev pub NewNameSays : Lexeme → Raw → Type 0
NewNameSays t n = (v : List ℕ) × (IsString v t ⊎ IsBlock v t) × IsIdentifier v × (n ≡ raw_leaf (text v))

-- the text as a node, where it is an identifier
abbrev pub NamesText : List ℕ → Option RawNode → Type 0
NamesText v None = IsIdentifier v → ⊥
NamesText v (Some n) = IsIdentifier v × (raw_view n ≡ raw_leaf (text v))

-- a pair within a field: of new names, or of references
abbrev pub under : Home → Bool → List Pair → Production Pair
under home true = renaming
under home false = pair_of (reference home)
