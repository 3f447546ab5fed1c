-- What a reader stands for: the tokens that are left; and what its methods answer.
use Rattle.std.specs.Prelude.{◌≡◌, ℕ, List, [], ◌∷◌, drop, map, Option, Some, None, Result, Ok, Err}
use Rattle.std.specs.Option.{option_map}
use Rattle.sm_lex.specs.Tokens.{lexeme_of}
use Rattle.sm_lex.specs.declared.token.Token.{Token}
use Rattle.sm_bytes.specs.declared.no_memory.NoMemory.{NoMemory as OutOfMemory}
use Rattle.sm_model.specs.Raw.{Raw}
use Rattle.sm_model.specs.RawView.{raw_view}
use Rattle.sm_model.specs.declared.raw.RawNode.{RawNode}
use Rattle.sm_idl.specs.Productions.{Tokens, spaced_from, Production}
use Rattle.sm_idl.specs.declared.reader.Reader.{Reader}
use Rattle.sm_idl.specs.declared.reader.ReadStop.{ReadStop}
use Rattle.sm_idl.specs.declared.reader.ReadStop.TheVariants.{Syntax, NoMemory}
use Rattle.sm_idl.specs.steps.Firm.{Class}
use Rattle.sm_idl.specs.steps.Reading.{IsRead, IsStuck}

abbrev pub left : Reader → Tokens
left r = spaced_from r.text.now r.behind (map lexeme_of (drop r.at r.tokens.now))

-- the next of the tokens, if there is one
abbrev pub Peeks : Tokens → Option Token → Type 0
Peeks s None = s ≡ []
Peeks s (Some t) = (space : List ℕ) × (r : Tokens) × (s ≡ record { space = space; token = lexeme_of t } ∷ r)

-- the next is taken
abbrev pub TakesToken : Tokens → Tokens → Option Token → Type 0
TakesToken s r None = (s ≡ []) × (r ≡ s)
TakesToken s r (Some t) = (space : List ℕ) × (s ≡ record { space = space; token = lexeme_of t } ∷ r)

abbrev pub NoToken : Class
NoToken t = ⊥

-- reading stops at the token with which r begins
abbrev pub StopsIn : {X : Type 0} → Class → Production X → Tokens → Tokens → ReadStop → Type 0
StopsIn G P s r Syntax = IsStuck G P s r
StopsIn G P s r NoMemory = Unit {0}

-- a production that ends by itself is read, and r is left; or r begins with the token that goes on with nothing
abbrev pub ReadsAs : {V X : Type 0} → (V → X) → Production X → Tokens → Tokens → Result V ReadStop → Type 0
ReadsAs view P s r (Ok v) = P.whole (view v) s r
ReadsAs view P s r (Err stop) = StopsIn NoToken P s r stop

-- a production that goes on by some tokens is read, and r is left; or r begins with the token that goes on with nothing
abbrev pub ReadsOn : {V X : Type 0} → Class → (V → X) → Production X → Tokens → Tokens → Result V ReadStop → Type 0
ReadsOn G view P s r (Ok v) = IsRead G P (view v) s r
ReadsOn G view P s r (Err stop) = StopsIn G P s r stop

abbrev pub Reads : {X : Type 0} → Production X → Tokens → Tokens → Result X ReadStop → Type 0
Reads P s r result = ReadsAs (λ x. x) P s r result

-- a pair of the code
abbrev pub raw_pair : List ℕ × RawNode → List ℕ × Raw
raw_pair p = (p.0, raw_view p.1)

abbrev pub maybe_raw : Option RawNode → Option Raw
maybe_raw value = option_map raw_view value

-- the node that a token says, if it says one
abbrev pub SaysNode : (Raw → Type 0) → Result (Option RawNode) OutOfMemory → Type 0
SaysNode Says (Ok (Some n)) = Says (raw_view n)
SaysNode Says (Ok None) = (n : Raw) → Says n → ⊥
SaysNode Says (Err refusal) = Unit {0}
