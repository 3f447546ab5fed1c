-- What may still come of an item of limited depth, from each place within it, with the events that these bytes
-- complete and their times. The reader's contracts are stated by it: two states of which the same may still come are as good as one.
-- Any depth is a limit, so nothing here is bound to the reader's own; and keys may be marked or not.
use Rattle.std.specs.Prelude.{◌≡◌, ℕ, suc, pos, negsuc, ◌+◌, ◌%◌, ◌≤◌, Some, List, [], ◌∷◌, ◌++◌, length}
use Rattle.std.specs.List.{concat}
use Rattle.sm_tree.specs.Node.{Node, Nodes, Members}
use Rattle.sm_tree.specs.Levels.{levels, nodes_levels, members_levels}
use Rattle.sm_tree.specs.Events.{NodeEvent, key_event, text_event, bytes_event, tag_event, opaque_event, start_list, start_object}
use Rattle.sm_tree.specs.Timing.{TimedEvent, HandsOn}
use Rattle.sm_bytes.specs.declared.utf8.Utf8.{Utf8}
use Rattle.sm_bytes.specs.declared.utf8.Utf8.TheVariants.{Between}
use Rattle.sm_cbor.specs.Heads.{Number}
use Rattle.sm_cbor.specs.CborItem.{Chunks as ChunkBytes, IsOpaque}
use Rattle.sm_cbor.specs.Timing.{CompleteAt, ItemTimed, CountedEntriesTimed, EntriesToBreakTimed, CountedPairsTimed, PairsToBreakTimed}
use Rattle.sm_cbor.specs.steps.Marks.{Keys, key_of}
use Rattle.sm_cbor.specs.steps.Reading.{major_of, IsOf, EndsAs, integer_event}
use Rattle.sm_cbor.specs.declared.place.StringKind.{StringKind}
use Rattle.sm_cbor.specs.declared.place.StringKind.TheVariants.{Bytes, Text, Key as KeyText}
use Rattle.sm_cbor.specs.declared.place.Span.{Span}
use Rattle.sm_cbor.specs.declared.place.Span.TheVariants.{Whole, Chunk}
use Rattle.sm_cbor.specs.declared.place.Subject.{Subject}
use Rattle.sm_cbor.specs.declared.place.Subject.TheVariants.{Unsigned, Negative, String as StringHead, List as ListHead, Map as MapHead}
use Rattle.sm_cbor.specs.declared.place.Subject.TheVariants.{Tag as TagHead, Opaque}
use Rattle.sm_cbor.specs.declared.place.Level.{Level}
use Rattle.sm_cbor.specs.declared.place.Level.TheVariants.{Tag, List as AList, ListToBreak as AListToBreak, Map as AMap}
use Rattle.sm_cbor.specs.declared.place.Level.TheVariants.{MapToBreak as AMapToBreak}
use Rattle.sm_cbor.specs.declared.place.CborPlace.{CborPlace}
use Rattle.sm_cbor.specs.declared.place.CborPlace.TheVariants.{Item, Key, After, Argument, String, Chunks}

-- a place, the bytes of the string that has begun, and what is open, from the inside out
pub record CborState : Type 0 where
  pub place : CborPlace
  pub held : List ℕ
  pub levels : List Level

-- behind an item: the rest of all that is open
abbrev pub CborEnds : Keys → ℕ → List Level → List ℕ → List TimedEvent → Type 0
CborEnds w limit [] s es = (s ≡ []) × (es ≡ [])
CborEnds w limit (Tag ∷ ls) s es = CborEnds w limit ls s es
CborEnds w limit (AList n ∷ ls) s es =
    (ns : Nodes) × (r : List ℕ) × (fs : List TimedEvent) × CountedEntriesTimed (key_of w) n ns s r es fs × (nodes_levels ns + suc
    (length ls) ≤ limit)
    × CborEnds w limit ls r fs
CborEnds w limit (AListToBreak ∷ ls) s es =
    (ns : Nodes) × (r : List ℕ) × (fs : List TimedEvent) × EntriesToBreakTimed (key_of w) ns s r es fs × (nodes_levels ns + suc
    (length ls) ≤ limit)
    × CborEnds w limit ls r fs
CborEnds w limit (AMap n ∷ ls) s es =
    (ms : Members) × (r : List ℕ) × (fs : List TimedEvent) × CountedPairsTimed (key_of w) n ms s r es fs × (members_levels ms + suc
    (length ls) ≤ limit)
    × CborEnds w limit ls r fs
CborEnds w limit (AMapToBreak ∷ ls) s es =
    (ms : Members) × (r : List ℕ) × (fs : List TimedEvent) × PairsToBreakTimed (key_of w) ms s r es fs × (members_levels ms + suc
    (length ls) ≤ limit)
    × CborEnds w limit ls r fs

-- an item, and what is behind it
abbrev pub ItemComes : Keys → ℕ → List Level → List ℕ → List TimedEvent → Type 0
ItemComes w limit ls s es =
    (n : Node) × (r : List ℕ) × (fs : List TimedEvent) × ItemTimed (key_of w) n s r es fs × (levels n + length ls ≤ limit)
    × CborEnds w limit ls r fs

-- a key, its value, and what is behind it
abbrev pub CborKeyComes : Keys → ℕ → List Level → List ℕ → List TimedEvent → Type 0
CborKeyComes w limit ls s es =
    (k s1 : List ℕ) × (fs : List TimedEvent) × key_of w k s s1 × ItemComes w limit ls s1 fs × CompleteAt (key_event k) s1 es fs

-- behind the last byte of the string t
abbrev pub StringEnded : Keys → ℕ → StringKind → List ℕ → List Level → List ℕ → List TimedEvent → Type 0
StringEnded w limit Bytes t ls s es = (fs : List TimedEvent) × CborEnds w limit ls s fs × CompleteAt (bytes_event t) s es fs
StringEnded w limit Text t ls s es = (fs : List TimedEvent) × CborEnds w limit ls s fs × CompleteAt (text_event t) s es fs
StringEnded w limit KeyText t ls s es = (fs : List TimedEvent) × ItemComes w limit ls s fs × CompleteAt (key_event t) s es fs

-- more chunks of a string that is t so far
abbrev pub ChunksCome : Keys → ℕ → StringKind → List ℕ → List Level → List ℕ → List TimedEvent → Type 0
ChunksCome w limit kind t ls s es =
    (ts : List (List ℕ)) × (r : List ℕ) × ChunkBytes (major_of kind) (IsOf kind) ts s r × StringEnded w limit kind (t ++ concat ts) ls r es

-- behind the last byte of what a head has begun, with which the string is t
abbrev pub SpanEnded : Keys → ℕ → StringKind → Span → List ℕ → List Level → List ℕ → List TimedEvent → Type 0
SpanEnded w limit kind Whole t ls s es = StringEnded w limit kind t ls s es
SpanEnded w limit kind Chunk t ls s es = ChunksCome w limit kind t ls s es

-- n more bytes of it
abbrev pub CborStringComes : Keys → ℕ → StringKind → Span → ℕ → Utf8 → List ℕ → List Level → List ℕ → List TimedEvent → Type 0
CborStringComes w limit kind span n place t ls s es =
    (u r : List ℕ) × (s ≡ u ++ r) × (length u ≡ n) × EndsAs kind place u × SpanEnded w limit kind span (t ++ u) ls r es

-- what a string holds as its first bytes come: the chunks before it
abbrev pub before_span : Span → List ℕ → List ℕ
before_span Whole t = []
before_span Chunk t = t

-- behind an argument of value n
abbrev pub ArgumentEnded : Keys → ℕ → Subject → ℕ → List ℕ → List Level → List ℕ → List TimedEvent → Type 0
ArgumentEnded w limit Unsigned n t ls s es = (fs : List TimedEvent) × CborEnds w limit ls s fs
    × CompleteAt (integer_event n (pos n)) s es fs
ArgumentEnded w limit Negative n t ls s es = (fs : List TimedEvent) × CborEnds w limit ls s fs
    × CompleteAt (integer_event n (negsuc n)) s es fs
ArgumentEnded w limit (StringHead kind span) n t ls s es = CborStringComes w limit kind span n Between (before_span span t) ls s es
ArgumentEnded w limit ListHead n t ls s es = (fs : List TimedEvent) × CborEnds w limit (AList n ∷ ls) s fs × CompleteAt (start_list
    (Some n)) s es fs
ArgumentEnded w limit MapHead n t ls s es = (fs : List TimedEvent) × CborEnds w limit (AMap n ∷ ls) s fs × CompleteAt (start_object
    (Some n)) s es fs
ArgumentEnded w limit TagHead n t ls s es = (fs : List TimedEvent) × ItemComes w limit (Tag ∷ ls) s fs × CompleteAt (tag_event n) s es fs
ArgumentEnded w limit (Opaque b) n t ls s es =
    (fs : List TimedEvent) × IsOpaque (b % 32) n × CborEnds w limit ls s fs × CompleteAt (opaque_event b) s es fs

abbrev pub ArgumentComes : Keys → ℕ → Subject → ℕ → ℕ → List ℕ → List Level → List ℕ → List TimedEvent → Type 0
ArgumentComes w limit j k v t ls s es = (n : ℕ) × (r : List ℕ) × Number k v n s r × ArgumentEnded w limit j n t ls r es

-- from this place, s is the rest of an item that nests at most `limit` levels, and es are its events
abbrev pub CborRestAt : Keys → ℕ → CborPlace → List ℕ → List Level → List ℕ → List TimedEvent → Type 0
CborRestAt w limit Item t ls s es = ItemComes w limit ls s es
CborRestAt w limit Key t ls s es = CborKeyComes w limit ls s es
CborRestAt w limit After t ls s es = CborEnds w limit ls s es
CborRestAt w limit (Argument j k v) t ls s es = ArgumentComes w limit j k v t ls s es
CborRestAt w limit (String kind span n place) t ls s es = CborStringComes w limit kind span n place t ls s es
CborRestAt w limit (Chunks kind) t ls s es = ChunksCome w limit kind t ls s es

abbrev pub CborRest : Keys → ℕ → CborState → List ℕ → List TimedEvent → Type 0
CborRest w limit x s es = CborRestAt w limit x.place x.held x.levels s es

-- the state before the first byte
abbrev pub first_state : CborState
first_state = record { place = Item; held = []; levels = [] }

-- what may come at a state may come at the one before, behind the bytes v, which then complete the events `out`
abbrev pub LeadsBack : Keys → ℕ → CborState → List ℕ → List NodeEvent → CborState → Type 0
LeadsBack w limit before v out behind =
    (s : List ℕ) (fs : List TimedEvent) → CborRest w limit behind s fs
    → (os : List TimedEvent) × HandsOn (length s) os out × CborRest w limit before (v ++ s) (os ++ fs)

-- the bytes v lead from one state to another, and hand on the events `out`: those that are complete with these bytes
pub record CborLeads (w : Keys) (limit : ℕ) (before : CborState) (v : List ℕ) (out : List NodeEvent) (behind : CborState) : Type 0 where
  pub onward : (s : List ℕ) (es : List TimedEvent) → CborRest w limit before (v ++ s) es
      → (os fs : List TimedEvent) × (es ≡ os ++ fs) × HandsOn (length s) os out × CborRest w limit behind s fs
  pub back : LeadsBack w limit before v out behind

-- no item goes on from this state with the byte c
abbrev pub CborStops : Keys → ℕ → CborState → ℕ → Type 0
CborStops w limit x c = (s : List ℕ) (es : List TimedEvent) → CborRest w limit x (c ∷ s) es → ⊥
