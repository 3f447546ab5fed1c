-- What a reader stands for, what it keeps, and what its steps do. The contracts of the reader's methods cite it; that
-- of `read_tree` doesn't.
use Rattle.std.specs.Prelude.{◌≡◌, ℕ, ◌+◌, ◌-◌, ◌%◌, ◌≤◌, ◌<◌, ◌⊎◌, ◌↔◌, ◌≢◌, Some, Bool, true, false, List, [], ◌∷◌, ◌++◌, take, length}
use Rattle.std.specs.Prelude.{slice_index, Result, Ok, Err}
use Rattle.sm_tree.specs.Limits.{most_levels}
use Rattle.sm_tree.specs.Events.{NodeEvent}
use Rattle.sm_tree.specs.Timing.{TimedEvent}
use Rattle.sm_tree.specs.Streams.{StandsFor}
use Rattle.sm_tree.specs.steps.Handing.{TakesAll}
use Rattle.sm_tree.specs.declared.refusal.SyntaxRefusal.{SyntaxRefusal}
use Rattle.sm_tree.specs.declared.refusal.SyntaxRefusal.TheVariants.{Bad, Ended, TooDeep, KeyKind, NoMemory}
use Rattle.sm_bytes.specs.declared.utf8.Utf8.{Utf8}
use Rattle.sm_bytes.specs.Utf8 as utf8
use Rattle.sm_cbor.specs.CborItem.{IsOpaque}
use Rattle.sm_cbor.specs.Refusals.{mark}
use Rattle.sm_cbor.specs.steps.Marks.{Keys, plain, marked}
use Rattle.sm_cbor.specs.Refusals.{BeginsOther}
use Rattle.sm_cbor.specs.steps.Reading.{IsOf, EndsAs, bound}
use Rattle.sm_tree.specs.Nested.{nested_in, innermost_of}
use Rattle.sm_cbor.specs.steps.Rest.{CborState, CborRest, CborLeads, CborStops}
use Rattle.sm_cbor.specs.declared.place.StringKind.{StringKind}
use Rattle.sm_cbor.specs.declared.place.StringKind.TheVariants.{Bytes}
use Rattle.sm_cbor.specs.declared.place.Span.{Span}
use Rattle.sm_cbor.specs.declared.place.Span.TheVariants.{Whole, Chunk}
use Rattle.sm_cbor.specs.declared.place.Subject.{Subject}
use Rattle.sm_cbor.specs.declared.place.Subject.TheVariants.{Unsigned, Negative, String as StringHead, List as ListHead, Map as MapHead}
use Rattle.sm_cbor.specs.declared.place.Subject.TheVariants.{Tag as TagHead, Opaque}
use Rattle.sm_cbor.specs.declared.place.Level.{Level}
use Rattle.sm_cbor.specs.declared.place.Level.TheVariants.{Tag, List as AList, ListToBreak as AListToBreak, Map as AMap}
use Rattle.sm_cbor.specs.declared.place.Level.TheVariants.{MapToBreak as AMapToBreak}
use Rattle.sm_cbor.specs.declared.place.CborPlace.{CborPlace}
use Rattle.sm_cbor.specs.declared.place.CborPlace.TheVariants.{Item, Key, After, Argument, String, Chunks}
use Rattle.sm_cbor.specs.declared.read.Reader.{Reader}

-- how many levels open where the argument ends
abbrev pub opens_of : Subject → ℕ
opens_of Unsigned = 0
opens_of Negative = 0
opens_of (StringHead kind span) = 0
opens_of ListHead = 1
opens_of MapHead = 1
opens_of TagHead = 1
opens_of (Opaque b) = 0

abbrev pub opens : CborPlace → ℕ
opens Item = 0
opens Key = 0
opens After = 0
opens (Argument j k v) = opens_of j
opens (String kind span n place) = 0
opens (Chunks kind) = 0

-- some number with k bytes more is an argument of this
abbrev pub ArgumentLives : Subject → ℕ → ℕ → Type 0
ArgumentLives Unsigned k v = Unit {0}
ArgumentLives Negative k v = Unit {0}
ArgumentLives (StringHead kind span) k v = Unit {0}
ArgumentLives ListHead k v = Unit {0}
ArgumentLives MapHead k v = Unit {0}
ArgumentLives TagHead k v = Unit {0}
ArgumentLives (Opaque b) k v = ((k ≡ 0) × IsOpaque (b % 32) v) ⊎ (((b ≡ 0xF8) × (k ≡ 1) × (v ≡ 0)) ⊎ (25 ≤ b % 32))

-- something may come at the place
abbrev pub Lives : CborPlace → Type 0
Lives Item = Unit {0}
Lives Key = Unit {0}
Lives After = Unit {0}
Lives (Argument j k v) = ArgumentLives j k v
Lives (String kind span n place) = utf8.owed place ≤ n
Lives (Chunks kind) = Unit {0}

abbrev pub levels_of : Reader → List Level
levels_of r = nested_in r.levels

-- the reader's state, if it stood at this place; and its state
abbrev pub cbor_state_at : Reader → CborPlace → CborState
cbor_state_at r p = record { place = p; held = r.held.items; levels = levels_of r }

abbrev pub cbor_state_of : Reader → CborState
cbor_state_of r = cbor_state_at r r.place

-- its state, where an array or a map has opened
abbrev pub opened : Reader → Level → CborState
opened r l = record { place = After; held = r.held.items; levels = l ∷ levels_of r }

-- nothing is open, or what ends with a break
abbrev pub BehindItem : List Level → Type 0
BehindItem [] = Unit {0}
BehindItem (Tag ∷ ls) = ⊥
BehindItem (AList n ∷ ls) = ⊥
BehindItem (AListToBreak ∷ ls) = Unit {0}
BehindItem (AMap n ∷ ls) = ⊥
BehindItem (AMapToBreak ∷ ls) = Unit {0}

-- with any end that may come, these bytes are a string of the kind
abbrev pub CborHolds : StringKind → Utf8 → List ℕ → Type 0
CborHolds kind place t = (u : List ℕ) → EndsAs kind place u → IsOf kind (t ++ u)

-- the chunks before a chunk are of the kind
abbrev pub ChunksHeld : Subject → List ℕ → Type 0
ChunksHeld Unsigned t = Unit {0}
ChunksHeld Negative t = Unit {0}
ChunksHeld (StringHead kind Whole) t = Unit {0}
ChunksHeld (StringHead kind Chunk) t = IsOf kind t
ChunksHeld ListHead t = Unit {0}
ChunksHeld MapHead t = Unit {0}
ChunksHeld TagHead t = Unit {0}
ChunksHeld (Opaque b) t = Unit {0}

-- what the place itself keeps
abbrev pub KeepsPlace : CborPlace → List ℕ → Type 0
KeepsPlace Item t = Unit {0}
KeepsPlace Key t = Unit {0}
KeepsPlace After t = Unit {0}
KeepsPlace (Argument j k v) t = ArgumentLives j k v × (v < bound k) × ChunksHeld j t
KeepsPlace (String kind span n place) t = (utf8.owed place ≤ n) × CborHolds kind place t
KeepsPlace (Chunks kind) t = IsOf kind t

-- what holds of a reader that stands at this place
pub record IsAt (r : Reader) (p : CborPlace) : Type 0 where
  pub room : length (levels_of r) + opens p ≤ most_levels
  pub keeps : KeepsPlace p r.held.items

-- bytes are owed at the place, or what may come is open
abbrev pub Begun : CborPlace → List Level → Type 0
Begun Item ls = Unit {0}
Begun Key ls = Unit {0}
Begun After ls = BehindItem ls
Begun (Argument j k v) ls = 0 < k
Begun (String kind span n place) ls = 0 < n
Begun (Chunks kind) ls = Unit {0}

-- what holds of a reader between two bytes
pub record IsSoundReader (r : Reader) : Type 0 where
  pub there : IsAt r r.place
  pub begun : Begun r.place (levels_of r)

-- the events es were handed on; and from the place p the bytes v lead the reader on, and their events are handed on too: a sink
-- that stood for S stands for T
pub record CborGoes (S : StandsFor) (before : Reader) (es : List NodeEvent) (p : CborPlace) (v : List ℕ) (T : StandsFor)
    (behind : Reader) : Type 0 where
  pub out : List NodeEvent
  pub leads : (w : Keys) (limit : ℕ) → most_levels ≤ limit → CborLeads w limit (cbor_state_at before p) v out (cbor_state_of behind)
  pub taken : TakesAll S (es ++ out) T
  pub sound : IsSoundReader behind

-- a level has opened with this event, and no item of it has come
pub record OpensLevel (S : StandsFor) (before : Reader) (level : Level) (e : NodeEvent) (T : StandsFor) (behind : Reader) : Type 0 where
  pub levels : levels_of behind ≡ level ∷ levels_of before
  pub held : behind.held ≡ before.held
  pub taken : TakesAll S (e ∷ []) T
  pub there : IsAt behind After

-- the innermost of what is open is this level
abbrev pub IsFirstLevel : Level → List Level → Type 0
IsFirstLevel l ls = innermost_of ls ≡ Some l

-- the place is in a byte string, or in a text
abbrev pub IsBytesPlace : CborPlace → ℕ → Utf8 → Type 0
IsBytesPlace p n place = (span : Span) × (p ≡ String Bytes span n place)

abbrev pub IsTextPlace : CborPlace → ℕ → Utf8 → Type 0
IsTextPlace p n place = (kind : StringKind) × (span : Span) × (kind ≢ Bytes) × (p ≡ String kind span n place)

-- what may come is taken one byte at a time: neither an item nor a key nor the bytes of a string
abbrev pub IsBytewise : CborPlace → Type 0
IsBytewise Item = ⊥
IsBytewise Key = ⊥
IsBytewise After = Unit {0}
IsBytewise (Argument j k v) = Unit {0}
IsBytewise (String kind span n place) = ⊥
IsBytewise (Chunks kind) = Unit {0}

-- the bytes go on with the string at this place, and lead to this place of its UTF-8
abbrev pub RunFits : CborPlace → Utf8 → List ℕ → Type 0
RunFits Item next run = ⊥
RunFits Key next run = ⊥
RunFits After next run = ⊥
RunFits (Argument j k v) next run = ⊥
RunFits (String kind span n place) next run =
    (length run ≤ n) × (utf8.owed next ≤ n - length run) × ((u : List ℕ) → EndsAs kind place (run ++ u) ↔ EndsAs kind next u)
RunFits (Chunks kind) next run = ⊥

-- a prefix of the bytes, of no more than n, but of some
abbrev pub IsSomePrefix : List ℕ → List ℕ → ℕ → Type 0
IsSomePrefix run bs n =
    (run ≡ take (length run) bs) × (length run ≤ length bs) × (length run ≤ n) × (0 < n → 0 < length bs → 0 < length run)

-- something completes an item from the state with this byte, at some limit
abbrev pub CborGoesOn : Keys → CborState → ℕ → Type 0
CborGoesOn w x c = (limit : ℕ) × (most_levels ≤ limit) × (s : List ℕ) × (es : List TimedEvent) × CborRest w limit x (c ∷ s) es

-- no item goes on with the byte: no key stands here, or no item at all begins with it
pub record IsBadByte (x : CborState) (c : ℕ) : Type 0 where
  pub stops : (limit : ℕ) → CborStops plain limit x c
  pub no_key : ((limit : ℕ) → CborStops marked limit x mark) ⊎ (BeginsOther c → ⊥)

-- a key stands here, and the byte begins another item
pub record IsOtherKey (x : CborState) (c : ℕ) : Type 0 where
  pub stops : (limit : ℕ) → CborStops plain limit x c
  pub key : CborGoesOn marked x mark
  pub other : BeginsOther c

-- the byte opens a level too many
pub record OpensTooDeep (x : CborState) (c : ℕ) : Type 0 where
  pub stops : CborStops plain most_levels x c
  pub goes_on : CborGoesOn plain x c

-- what stood for some events stands for them still
abbrev pub StandsStill : StandsFor → StandsFor → Type 0
StandsStill S T = (es : List NodeEvent) → S es → T es

-- what a byte does to the reader that stands at a place; where it is refused, nothing was handed on
abbrev pub CborTakesByte : StandsFor → Reader → CborPlace → ℕ → StandsFor → Reader → Result (Unit {0}) SyntaxRefusal → Type 0
CborTakesByte S before p c T behind (Ok x) = CborGoes S before [] p (c ∷ []) T behind
CborTakesByte S before p c T behind (Err NoMemory) = Unit {0}
CborTakesByte S before p c T behind (Err (Bad at)) = (at ≡ 0) × IsBadByte (cbor_state_at before p) c × StandsStill S T
CborTakesByte S before p c T behind (Err Ended) = ⊥
CborTakesByte S before p c T behind (Err (TooDeep at)) = (at ≡ 0) × OpensTooDeep (cbor_state_at before p) c × StandsStill S T
CborTakesByte S before p c T behind (Err (KeyKind at)) = (at ≡ 0) × IsOtherKey (cbor_state_at before p) c × StandsStill S T

-- what a reader that stands at a place makes of a prefix of some bytes: it takes so many of them, or refuses the first
abbrev pub CborTakesPrefixAt : StandsFor → Reader → CborPlace → List ℕ → StandsFor → Reader → Result ℕ SyntaxRefusal → Type 0
CborTakesPrefixAt S before p bs T behind (Ok n) = (0 < n) × (n ≤ length bs) × CborGoes S before [] p (take n bs) T behind
CborTakesPrefixAt S before p bs T behind (Err refusal) = CborTakesByte S before p (slice_index bs 0) T behind (Err refusal)

abbrev pub CborTakesPrefix : StandsFor → Reader → List ℕ → StandsFor → Reader → Result ℕ SyntaxRefusal → Type 0
CborTakesPrefix S before bs T behind result = CborTakesPrefixAt S before before.place bs T behind result

-- a refusal of the byte c, at which the reader stands
abbrev pub RefusesAt : CborState → ℕ → SyntaxRefusal → Type 0
RefusesAt x c NoMemory = Unit {0}
RefusesAt x c (Bad at) = IsBadByte x c
RefusesAt x c Ended = ⊥
RefusesAt x c (TooDeep at) = OpensTooDeep x c
RefusesAt x c (KeyKind at) = IsOtherKey x c

-- the refusal's place is this one
abbrev pub IsPlaceOf : ℕ → SyntaxRefusal → Type 0
IsPlaceOf at (Bad n) = n ≡ at
IsPlaceOf at Ended = ⊥
IsPlaceOf at (TooDeep n) = n ≡ at
IsPlaceOf at (KeyKind n) = n ≡ at
IsPlaceOf at NoMemory = Unit {0}

-- one of some bytes is refused so, and the events of those before it were handed on
abbrev pub RefusesOneOf : StandsFor → Reader → List ℕ → StandsFor → SyntaxRefusal → Type 0
RefusesOneOf S before bs T refusal =
    (at : ℕ) × (q : Reader) × (at < length bs) × CborGoes S before [] before.place (take at bs) T q
    × RefusesAt (cbor_state_of q) (slice_index bs at) refusal × IsPlaceOf at refusal

-- what it makes of all of them
abbrev pub CborTakesAll : StandsFor → Reader → List ℕ → StandsFor → Reader → Result (Unit {0}) SyntaxRefusal → Type 0
CborTakesAll S before bs T behind (Ok x) = CborGoes S before [] before.place bs T behind
CborTakesAll S before bs T behind (Err NoMemory) = Unit {0}
CborTakesAll S before bs T behind (Err (Bad at)) = RefusesOneOf S before bs T (Bad at)
CborTakesAll S before bs T behind (Err Ended) = ⊥
CborTakesAll S before bs T behind (Err (TooDeep at)) = RefusesOneOf S before bs T (TooDeep at)
CborTakesAll S before bs T behind (Err (KeyKind at)) = RefusesOneOf S before bs T (KeyKind at)

-- the bytes end where the reader stands: an item is whole, or one is cut short
abbrev pub CborEndsHere : Reader → Bool → Type 0
CborEndsHere r true = (r.place ≡ After) × (levels_of r ≡ [])
CborEndsHere r false = (w : Keys) (limit : ℕ) (es : List TimedEvent) → CborRest w limit (cbor_state_of r) [] es → ⊥
