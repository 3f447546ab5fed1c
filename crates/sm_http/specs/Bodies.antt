-- What follows a head, from any place in a body on: the body's data and what stands behind the body, or why it is refused.
use Rattle.std.specs.Prelude.{◌≡◌, ℕ, List, [], ◌++◌, length}
use Rattle.httparse.specs.Ascii.{crlf_bytes}
use Rattle.sm_http.specs.declared.message.BodyLeft.{BodyLeft}
use Rattle.sm_http.specs.declared.message.BodyLeft.TheVariants.{Known, Size, Data, Done}
use Rattle.sm_http.specs.declared.refusal.HttpRefusal.{HttpRefusal}
use Rattle.sm_http.specs.declared.refusal.HttpRefusal.TheVariants.{ReadFault, Ended, HeadTooLarge, Coding, Length, TooLong, Chunk, NoMemory}
use Rattle.sm_http.specs.declared.refusal.HttpRefusal.TheVariants.{Head as BadHead}
use Rattle.sm_http.specs.Chunks.{ChunkedText, IsChunkedText, print_chunked, chunks_data, PassesLimit}

-- the bytes are all that was left of a body, with this data
abbrev pub BodyText : BodyLeft → List ℕ → List ℕ → Type 0
BodyText (Known count) content bytes = (length bytes ≡ count) × (content ≡ bytes)
BodyText (Size sum) content bytes =
    (text : ChunkedText) × IsChunkedText text × (bytes ≡ print_chunked text) × (content ≡ chunks_data text.chunks)
BodyText (Data left total) content bytes =
    (open_data : List ℕ) × (text : ChunkedText) × (length open_data ≡ left) × IsChunkedText text
    × (bytes ≡ open_data ++ crlf_bytes ++ print_chunked text) × (content ≡ open_data ++ chunks_data text.chunks)
BodyText Done content bytes = (content ≡ []) × (bytes ≡ [])

-- a size line brings the sum of the chunks past the limit
abbrev pub IsPastLimit : BodyLeft → List ℕ → Type 0
IsPastLimit (Known count) bytes = ⊥
IsPastLimit (Size sum) bytes = PassesLimit sum bytes
IsPastLimit (Data left total) bytes =
    (open_data : List ℕ) × (rest : List ℕ) × (length open_data ≡ left) × (bytes ≡ open_data ++ crlf_bytes ++ rest)
    × PassesLimit total rest
IsPastLimit Done bytes = ⊥

-- the bytes begin with all that was left of a body, whose data this is
abbrev pub HasBody : BodyLeft → List ℕ → List ℕ → List ℕ → Type 0
HasBody left bytes content rest = (text : List ℕ) × BodyText left content text × (bytes ≡ text ++ rest)

-- no prefix of the bytes is all that was left
abbrev pub HasNoBody : BodyLeft → List ℕ → Type 0
HasNoBody left bytes = (content rest : List ℕ) → HasBody left bytes content rest → ⊥

-- no bytes can follow that make a prefix all that was left
abbrev pub NeverHasBody : BodyLeft → List ℕ → Type 0
NeverHasBody left bytes = (more : List ℕ) → HasNoBody left (bytes ++ more)

-- what follows a head: data, and what stands behind it; or a refusal
pub data BodyFraming : Type 0 where
  body : List ℕ → List ℕ → BodyFraming
  body_refused : HttpRefusal → BodyFraming

-- the size line past the limit comes before any byte with which no body goes on, since a body goes on with every size line
abbrev pub BodyFramed : BodyLeft → List ℕ → BodyFraming → Type 0
BodyFramed left bytes (body content rest) = HasBody left bytes content rest × (IsPastLimit left bytes → ⊥)
BodyFramed left bytes (body_refused TooLong) = IsPastLimit left bytes
BodyFramed left bytes (body_refused Chunk) = NeverHasBody left bytes × (IsPastLimit left bytes → ⊥)
BodyFramed left bytes (body_refused Ended) =
    HasNoBody left bytes × (NeverHasBody left bytes → ⊥) × (IsPastLimit left bytes → ⊥)
BodyFramed left bytes (body_refused ReadFault) = ⊥
BodyFramed left bytes (body_refused BadHead) = ⊥
BodyFramed left bytes (body_refused HeadTooLarge) = ⊥
BodyFramed left bytes (body_refused Coding) = ⊥
BodyFramed left bytes (body_refused Length) = ⊥
BodyFramed left bytes (body_refused NoMemory) = ⊥

-- the same with data that came before
abbrev pub behind_data : List ℕ → BodyFraming → BodyFraming
behind_data piece (body content rest) = body (piece ++ content) rest
behind_data piece (body_refused refusal) = body_refused refusal
