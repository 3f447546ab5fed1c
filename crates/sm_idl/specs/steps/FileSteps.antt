-- Files, as the reader holds them, and what its methods answer for their parts.
use Rattle.std.specs.Prelude.{◌≡◌, ◌⊎◌, ℕ, List, [], ◌∷◌, ◌++◌, codes, Option, Some, Vec, Result, Ok, Err}
use Rattle.std.specs.List.{filter}
use Rattle.std.specs.declared.alloc.Global.{Global}
use Rattle.sm_ids.specs.Identifier.{IsNamespace}
use Rattle.sm_ids.specs.declared.owned.ShapeId.{ShapeId}
use Rattle.sm_model.specs.RawView.{raw_members_view}
use Rattle.sm_model.specs.SaidView.{statements_view}
use Rattle.sm_model.specs.declared.raw.RawNode.{RawNode}
use Rattle.sm_lex.specs.declared.token.LexRefusal.{LexRefusal}
use Rattle.sm_lex.specs.declared.token.LexRefusal.TheVariants.{Bad, UnclosedString, UnclosedBlock, BadEscape, NoMemory as OutOfMemory}
use Rattle.sm_idl.specs.declared.refusal.IdlRefusal.{IdlRefusal}
use Rattle.sm_idl.specs.declared.refusal.IdlRefusal.TheVariants.{Lex, Syntax as SyntaxAt, NoMemory as NoIdlMemory}
use Rattle.sm_idl.specs.Productions.{Spaced, Tokens, Production, each, many}
use Rattle.sm_idl.specs.Words.{the_word, word_that}
use Rattle.sm_idl.specs.Nodes.{Home, Pair}
use Rattle.sm_idl.specs.Idl.{control, metadata, used, is_absolute, FileSaid, file, FileSpelled}
use Rattle.sm_idl.specs.declared.file.Beginning.{Beginning}
use Rattle.sm_idl.specs.declared.file.File.{File}
use Rattle.sm_idl.specs.declared.reader.ReadStop.{ReadStop}
use Rattle.sm_idl.specs.declared.reader.ReadStop.TheVariants.{Syntax, NoMemory}
use Rattle.sm_idl.specs.steps.FileClasses.{Dollar, Metadata, Namespace, Use}
use Rattle.sm_idl.specs.steps.Firm.{Class, HeadIs}
use Rattle.sm_idl.specs.steps.ReaderView.{StopsIn}
use Rattle.sm_idl.specs.steps.Reading.{IsRead}

-- words before the namespace is known
abbrev pub no_namespace : Home
no_namespace = record { namespace = []; uses = [] }

-- pairs are read, and no more of them stand behind
abbrev pub ReadsRow : Class → Production (List Pair) → Tokens → Tokens → Result (Vec (List ℕ × RawNode) Global) ReadStop → Type 0
ReadsRow A P s r (Ok pairs) = P.whole (raw_members_view pairs.items) s r × (HeadIs A r → ⊥)
ReadsRow A P s r (Err stop) = StopsIn A P s r stop

-- controls and metadata, whose words are relative to home
abbrev pub BeginSaid : Option Home → List Pair → List Pair → Tokens → Tokens → Type 0
BeginSaid home cs ms s r =
    (mid : Tokens) × (each (control home)).whole cs s mid × (HeadIs Dollar mid → ⊥) × (each (metadata home)).whole ms mid r
    × (HeadIs Metadata r → ⊥)

abbrev pub BeginStops : Option Home → Tokens → Tokens → ReadStop → Type 0
BeginStops home s r stop = StopsIn Dollar (each (control home)) s r stop
    ⊎ ((cs : List Pair) × (mid : Tokens) × (each (control home)).whole cs s mid × (HeadIs Dollar mid → ⊥)
    × StopsIn Metadata (each (metadata home)) mid r stop)

abbrev pub ReadsBeginning : Option Home → Tokens → Tokens → Result Beginning ReadStop → Type 0
ReadsBeginning home s r (Ok b) = BeginSaid home (raw_members_view b.controls.items) (raw_members_view b.metadata.items) s r
ReadsBeginning home s r (Err stop) = BeginStops home s r stop

-- words are read, and these are the ids that are used
abbrev pub ReadsUses : Tokens → Tokens → Result (Vec ShapeId Global) ReadStop → Type 0
ReadsUses s r (Ok uses) = (ws : List (List ℕ)) × (uses.items ≡ filter is_absolute ws) × IsRead Use (many used) ws s r
ReadsUses s r (Err stop) = StopsIn Use (many used) s r stop

-- What stands before r is begun, but not with the first token of r; and where r is none, no file is spelled
pub record FileStops (s r : Tokens) : Type 0 where
  pub home : Home
  pub before : Tokens
  pub cut : s ≡ before ++ r
  pub begun : (file (Some home)).begun before
  pub stops : (t : Spaced) (q : Tokens) → r ≡ t ∷ q → (file (Some home)).begun (before ++ t ∷ []) → ⊥
  pub none : r ≡ [] → (f : FileSaid) → (file (Some home)).whole f before [] → ⊥

abbrev pub FileStopped : Tokens → Tokens → ReadStop → Type 0
FileStopped s r Syntax = FileStops s r
FileStopped s r NoMemory = Unit {0}

-- a file is read to its end, or reading stops
abbrev pub ReadsFile : Tokens → Tokens → Result File ReadStop → Type 0
ReadsFile s r (Ok v) = (f : FileSaid) × (f.controls ≡ raw_members_view v.controls.items) × (f.said ≡ statements_view v.statements.items)
    × FileSpelled f s
ReadsFile s r (Err stop) = FileStopped s r stop

-- a reader stands behind the ids that a file uses: before stand its controls and metadata, and its namespace
pub record InSection (home : Home) (s r : Tokens) : Type 0 where
  pub controls : List Pair
  pub metadata : List Pair
  pub before : Tokens
  pub begins : BeginSaid (Some no_namespace) controls metadata s before
  pub here : HeadIs Namespace before
  pub behind_word : Tokens
  pub word : (the_word (codes "namespace")).whole tt before behind_word
  pub behind_name : Tokens
  pub name : (word_that IsNamespace).whole home.namespace behind_word behind_name
  pub words : List (List ℕ)
  pub uses : home.uses ≡ filter is_absolute words
  pub read : IsRead Use (many used) words behind_name r

-- the place of the next token, or the length of the text
abbrev pub PlaceIs : ℕ → Tokens → ℕ → Type 0
PlaceIs len [] at = at ≡ len
PlaceIs len (t ∷ q) at = at ≡ t.token.start

-- a refusal of the lexer is one of the reader
abbrev pub LexedAs : LexRefusal → IdlRefusal → Type 0
LexedAs OutOfMemory refusal = refusal ≡ NoIdlMemory
LexedAs (Bad at) refusal = refusal ≡ Lex (Bad at)
LexedAs (UnclosedString at) refusal = refusal ≡ Lex (UnclosedString at)
LexedAs (UnclosedBlock at) refusal = refusal ≡ Lex (UnclosedBlock at)
LexedAs (BadEscape at) refusal = refusal ≡ Lex (BadEscape at)

-- why reading stops, as a refusal of the text
abbrev pub StoppedAs : ℕ → Tokens → ReadStop → IdlRefusal → Type 0
StoppedAs len r Syntax refusal = (at : ℕ) × PlaceIs len r at × (refusal ≡ SyntaxAt at)
StoppedAs len r NoMemory refusal = refusal ≡ NoIdlMemory
