-- Heads of messages (RFC 9112, sections 2 to 5), by the grammar of httparse in its default configuration: a line may end in LF
-- alone, empty lines may come first, and a phrase may be missing.
use Rattle.std.specs.Prelude.{◌≡◌, ℕ, ◌+◌, ◌≤◌, ◌<◌, List, [], ◌∷◌, map, take, length, Bool, false, ◌==◌, ◌||◌, if◌then◌else◌, IsTrue}
use Rattle.std.specs.List.{list_any}
use Rattle.httparse.specs.Grammar.{RequestHead, ReadsRequest, HasNoRequest, NeverHasRequest, ResponseHead, ReadsResponse, HasNoResponse}
use Rattle.httparse.specs.Grammar.{NeverHasResponse, status_code, field_value}
use Rattle.httparse.specs.Grammar.{Field as FieldLine}
use Rattle.sm_bytes.specs.Ascii.{carriage_return, line_feed}
use Rattle.sm_http.specs.declared.message.Field.{Field}
use Rattle.sm_http.specs.declared.message.Head.{Head}
use Rattle.sm_http.specs.declared.message.Start.TheVariants.{Request, Response}
use Rattle.sm_http.specs.declared.message.MessageSide.{MessageSide}
use Rattle.sm_http.specs.declared.message.MessageSide.TheVariants.{Request as of_requests, Response as of_responses}
use Rattle.sm_http.specs.Limits.{head_limit}

-- what the bytes of a head say: the head, and the minor number of its version
pub record HeadText : Type 0 where
  pub head : Head
  pub minor : ℕ

-- the name as it stands, and the value without the spaces and tabs around it
abbrev pub field_of : FieldLine → Field
field_of line = record { name = line.name; value = field_value line }

abbrev pub request_text : RequestHead → HeadText
request_text h = record {
  head = record { start = Request h.method h.target; fields = map field_of h.fields };
  minor = h.minor;
}

abbrev pub response_text : ResponseHead → HeadText
response_text h = record {
  head = record { start = Response (status_code h); fields = map field_of h.fields };
  minor = h.minor;
}

-- the bytes are a head that says this, and then the rest
abbrev pub ReadsHead : MessageSide → List ℕ → HeadText → List ℕ → Type 0
ReadsHead of_requests bytes text rest = (h : RequestHead) × ReadsRequest bytes h rest × (text ≡ request_text h)
ReadsHead of_responses bytes text rest = (h : ResponseHead) × ReadsResponse bytes h rest × (text ≡ response_text h)

-- no prefix of the bytes is a head
abbrev pub HasNoHead : MessageSide → List ℕ → Type 0
HasNoHead of_requests bytes = HasNoRequest bytes
HasNoHead of_responses bytes = HasNoResponse bytes

-- no bytes can follow that make a prefix a head
abbrev pub NeverHasHead : MessageSide → List ℕ → Type 0
NeverHasHead of_requests bytes = NeverHasRequest bytes
NeverHasHead of_responses bytes = NeverHasResponse bytes

-- CR and LF, the bytes of the empty lines that may come first
abbrev pub is_line_byte : ℕ → Bool
is_line_byte b = b == carriage_return || b == line_feed

abbrev pub has_line_feed : List ℕ → Bool
has_line_feed bytes = list_any (λ b. b == line_feed) bytes

-- the first line has ended: an LF stands behind a byte other than CR and LF
abbrev pub has_first_line : List ℕ → Bool
has_first_line [] = false
has_first_line (b ∷ bytes) = if is_line_byte b then has_first_line bytes else has_line_feed bytes

-- a whole head stands first, within the limit
pub record HeadStands (side : MessageSide) (bytes : List ℕ) (text : HeadText) (rest : List ℕ) : Type 0 where
  pub reads : ReadsHead side bytes text rest
  pub within : length bytes ≤ head_limit + length rest

-- the first line has ended, and nothing that follows within the limit can make a head
pub record IsNoHead (side : MessageSide) (bytes : List ℕ) : Type 0 where
  pub ended : IsTrue (has_first_line (take head_limit bytes))
  pub never : NeverHasHead side (take head_limit bytes)

-- there are bytes, and a head that hasn't ended yet within the limit
pub record AwaitsHead (side : MessageSide) (bytes : List ℕ) : Type 0 where
  pub some : 0 < length bytes
  pub no_head : HasNoHead side (take head_limit bytes)
  pub not_refused : IsNoHead side bytes → ⊥
