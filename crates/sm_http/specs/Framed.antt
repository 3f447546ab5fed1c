-- Where one message ends and the next begins: what bytes come to on a side. It is said of bytes, and never of the cuts in which
-- they come.
use Rattle.std.specs.Prelude.{◌≡◌, ℕ, ◌<◌, ◌≤◌, ◌⊎◌, List, [], length, Some, None}
use Rattle.sm_http.specs.declared.message.Head.{Head}
use Rattle.sm_http.specs.declared.message.Message.{Message}
use Rattle.sm_http.specs.declared.message.MessageSide.{MessageSide}
use Rattle.sm_http.specs.declared.refusal.HttpRefusal.{HttpRefusal}
use Rattle.sm_http.specs.declared.refusal.HttpRefusal.TheVariants.{ReadFault, Ended, HeadTooLarge, Coding, Length, TooLong, Chunk, NoMemory}
use Rattle.sm_http.specs.declared.refusal.HttpRefusal.TheVariants.{Head as BadHead}
use Rattle.sm_http.specs.Limits.{head_limit}
use Rattle.sm_http.specs.Heads.{HeadText, HeadStands, IsNoHead, AwaitsHead}
use Rattle.sm_http.specs.BodyFields.{head_refusal, body_begin}
use Rattle.sm_http.specs.Bodies.{BodyFramed, body, body_refused}

-- no byte; a head, and what stands behind it; or a refusal
pub data HeadFraming : Type 0 where
  no_head : HeadFraming
  head : Head → List ℕ → HeadFraming
  head_refused : HttpRefusal → HeadFraming

-- no whole head stands within the limit, and this is why
abbrev pub RefusesPart : MessageSide → List ℕ → HttpRefusal → Type 0
RefusesPart side bytes BadHead = IsNoHead side bytes
RefusesPart side bytes HeadTooLarge = AwaitsHead side bytes × (head_limit ≤ length bytes)
RefusesPart side bytes Ended = AwaitsHead side bytes × (length bytes < head_limit)
RefusesPart side bytes ReadFault = ⊥
RefusesPart side bytes Coding = ⊥
RefusesPart side bytes Length = ⊥
RefusesPart side bytes TooLong = ⊥
RefusesPart side bytes Chunk = ⊥
RefusesPart side bytes NoMemory = ⊥

-- a whole head stands, and is refused by what it says
abbrev pub RefusesWhole : MessageSide → List ℕ → HttpRefusal → Type 0
RefusesWhole side bytes refusal =
    (text : HeadText) × (rest : List ℕ) × HeadStands side bytes text rest × (head_refusal text ≡ Some refusal)

abbrev pub HeadFramed : MessageSide → List ℕ → HeadFraming → Type 0
HeadFramed side bytes no_head = bytes ≡ []
HeadFramed side bytes (head said rest) =
    (text : HeadText) × HeadStands side bytes text rest × (head_refusal text ≡ None) × (text.head ≡ said)
HeadFramed side bytes (head_refused refusal) = RefusesPart side bytes refusal ⊎ RefusesWhole side bytes refusal

-- no byte; a message, and what stands behind it; or a refusal
pub data Framing : Type 0 where
  no_message : Framing
  message : Message → List ℕ → Framing
  message_refused : HttpRefusal → Framing

abbrev pub Framed : MessageSide → List ℕ → Framing → Type 0
Framed side bytes no_message = HeadFramed side bytes no_head
Framed side bytes (message said rest) =
    (behind : List ℕ) × HeadFramed side bytes (head said.head behind) × BodyFramed (body_begin said.head) behind (body said.body rest)
Framed side bytes (message_refused refusal) =
    HeadFramed side bytes (head_refused refusal)
    ⊎ ((said : Head) × (behind : List ℕ) × HeadFramed side bytes (head said behind)
    × BodyFramed (body_begin said) behind (body_refused refusal))
