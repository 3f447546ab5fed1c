-- What the reader makes of a head, in words of its own. Its private methods cite it.
use Rattle.std.specs.Prelude.{◌≡◌, ◌≢◌, ℕ, zero, suc, ◌+◌, ◌/◌, ◌%◌, ◌<◌, ◌≤◌, ◌⊎◌, ◌^◌, nat_lt, if◌then◌else◌, ℤ, true, false, Option}
use Rattle.std.specs.Prelude.{None, Some, List, [], length, take, drop, slice_index, IsUtf8}
use Rattle.std.specs.Fmt.{signed_decimal}
use Rattle.sm_tree.specs.Json.{AreBytes}
use Rattle.sm_tree.specs.Node.{Node, int, number}
use Rattle.sm_tree.specs.Events.{NodeEvent, int_event, number_event}
use Rattle.sm_bytes.specs.declared.utf8.Utf8.{Utf8}
use Rattle.sm_bytes.specs.Utf8 as utf8
use Rattle.sm_cbor.specs.Heads.{Number, HasWidth, unsigned_type, negative_type, bytes_type, text_type, array_type, map_type, tag_type}
use Rattle.sm_cbor.specs.Heads.{simple_type}
use Rattle.sm_cbor.specs.declared.place.StringKind.{StringKind}
use Rattle.sm_cbor.specs.declared.place.StringKind.TheVariants.{Bytes, Text, Key}
use Rattle.sm_cbor.specs.declared.place.Span.TheVariants.{Whole, Chunk}
use Rattle.sm_cbor.specs.declared.place.Subject.{Subject}
use Rattle.sm_cbor.specs.declared.place.Subject.TheVariants.{Unsigned, Negative, String, List as AList, Map, Tag, Opaque}
use Rattle.sm_cbor.specs.declared.head.Head.{Head}
use Rattle.sm_cbor.specs.declared.head.Head.TheVariants.{Argument, Chunks, List as EntriesHead, Map as PairsHead, Null, Bool, NoItem}

-- the argument of this additional information is the number that is v so far, with k more bytes
abbrev pub StartsNumber : ℕ → ℕ → ℕ → Type 0
StartsNumber info k v = ((info < 24) × (k ≡ 0) × (v ≡ info)) ⊎ (HasWidth info k × (v ≡ 0))

abbrev pub WidthIs : ℕ → Option (ℕ × ℕ) → Type 0
WidthIs info None = 28 ≤ info
WidthIs info (Some w) = StartsNumber info w.0 w.1

-- the major type, and what the bytes, of a string
abbrev pub major_of : StringKind → ℕ
major_of Bytes = bytes_type
major_of Text = text_type
major_of Key = text_type

abbrev pub IsOf : StringKind → List ℕ → Type 0
IsOf Bytes t = AreBytes t
IsOf Text t = IsUtf8 t
IsOf Key t = IsUtf8 t

-- the initial byte of a chunk of such a string, by its argument
abbrev pub ChunkIs : StringKind → ℕ → Option (ℕ × ℕ) → Type 0
ChunkIs kind c None = c / 32 ≡ major_of kind → 28 ≤ c % 32
ChunkIs kind c (Some w) = (c / 32 ≡ major_of kind) × StartsNumber (c % 32) w.0 w.1

-- these bytes end such a string, whose next byte stands at this place of its UTF-8
abbrev pub EndsAs : StringKind → Utf8 → List ℕ → Type 0
EndsAs Bytes place u = AreBytes u
EndsAs Text place u = utf8.Rest place u
EndsAs Key place u = utf8.Rest place u

-- the initial byte of an item with an argument
abbrev pub SubjectIs : ℕ → Subject → Type 0
SubjectIs c Unsigned = c / 32 ≡ unsigned_type
SubjectIs c Negative = c / 32 ≡ negative_type
SubjectIs c (String Bytes Whole) = c / 32 ≡ bytes_type
SubjectIs c (String Text Whole) = c / 32 ≡ text_type
SubjectIs c (String Key Whole) = ⊥
SubjectIs c (String kind Chunk) = ⊥
SubjectIs c AList = c / 32 ≡ array_type
SubjectIs c Map = c / 32 ≡ map_type
SubjectIs c Tag = c / 32 ≡ tag_type
SubjectIs c (Opaque b) = (c ≡ b) × (c / 32 ≡ simple_type) × ((c % 32 < 20) ⊎ (24 ≤ c % 32))

abbrev pub HeadIs : ℕ → Head → Type 0
HeadIs c (Argument j k v) = SubjectIs c j × StartsNumber (c % 32) k v
HeadIs c (Chunks Bytes) = c ≡ 0x5F
HeadIs c (Chunks Text) = c ≡ 0x7F
HeadIs c (Chunks Key) = ⊥
HeadIs c EntriesHead = c ≡ 0x9F
HeadIs c PairsHead = c ≡ 0xBF
HeadIs c Null = (c ≡ 0xF6) ⊎ (c ≡ 0xF7)
HeadIs c (Bool false) = c ≡ 0xF4
HeadIs c (Bool true) = c ≡ 0xF5
HeadIs c NoItem = (28 ≤ c % 32) × (c ≢ 0x5F) × (c ≢ 0x7F) × (c ≢ 0x9F) × (c ≢ 0xBF)

-- the argument is the bits of a value
abbrev pub IsBits : Subject → Type 0
IsBits Unsigned = ⊥
IsBits Negative = ⊥
IsBits (String kind span) = ⊥
IsBits AList = ⊥
IsBits Map = ⊥
IsBits Tag = ⊥
IsBits (Opaque b) = Unit {0}

-- the argument is a text's length
abbrev pub IsText : Subject → Type 0
IsText Unsigned = ⊥
IsText Negative = ⊥
IsText (String Bytes span) = ⊥
IsText (String Text span) = Unit {0}
IsText (String Key span) = ⊥
IsText AList = ⊥
IsText Map = ⊥
IsText Tag = ⊥
IsText (Opaque b) = ⊥

-- the n bytes behind the first len
abbrev pub IsBehind : List ℕ → ℕ → ℕ → List ℕ → Type 0
IsBehind bs len n run = (run ≡ take n (drop len bs)) × (length run ≡ n) × (len + n ≤ length bs)

-- a number that has k bytes more is below this, since 64 bits hold the whole
abbrev pub bound : ℕ → ℕ
bound zero = 2 ^ 64
bound (suc k) = bound k / 256

-- the first bytes, so many, are a head with this argument, which isn't bits
pub record HasHead (bs : List ℕ) (j : Subject) (n len : ℕ) : Type 0 where
  pub left : ℕ
  pub value : ℕ
  pub initial : HeadIs (slice_index bs 0) (Argument j left value)
  pub argument : Number left value n (drop 1 (take len bs)) []
  pub all : len ≡ suc left
  pub inside : len ≤ length bs
  pub no_bits : IsBits j → ⊥

-- the tree of an integer that n more than nothing, or n more than -1, tells
abbrev pub integer_node : ℕ → ℤ → Node
integer_node n z = if nat_lt n (2 ^ 63) then int z else number (signed_decimal z)

-- and its one event
abbrev pub integer_event : ℕ → ℤ → NodeEvent
integer_event n z = if nat_lt n (2 ^ 63) then int_event z else number_event (signed_decimal z)
