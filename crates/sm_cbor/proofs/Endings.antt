-- From each place where something may come, some bytes complete an item, if the limit has room for what is open.
use Rattle.std.proofs.Common.{◌≡◌, ℕ, zero, suc, ◌+◌, ◌*◌, ◌%◌, ◌≤◌, inl, inr, List, [], ◌∷◌, ◌++◌, refl, sym, ap, subst, arith, length}
use Rattle.std.proofs.lemmas.Str.{IsUtf8-nil}
use Rattle.sm_tree.specs.Json.{AreBytes}
use Rattle.sm_tree.specs.Node.{Nodes, Members, null, no_nodes, node, no_members, member}
use Rattle.sm_tree.specs.Levels.{nodes_levels, members_levels}
use Rattle.sm_tree.specs.Events.{null_event, key_event, text_event, bytes_event, tag_event, opaque_event, start_list, end_list}
use Rattle.sm_tree.specs.Events.{start_object, end_object}
use Rattle.sm_tree.specs.Timing.{TimedEvent, by_byte}
use Rattle.sm_bytes.specs.declared.utf8.Utf8.{Utf8}
use Rattle.sm_bytes.specs.declared.utf8.Utf8.TheVariants.{Between}
use Rattle.sm_bytes.specs.Utf8 as utf8
use Rattle.sm_bytes.proofs.Characters.{rest_goes_on}
use Rattle.std.proofs.Common.{Some}
use Rattle.sm_cbor.specs.Heads.{Number}
use Rattle.sm_cbor.specs.CborItem.{CountedEntries, CountedPairs, IsOpaque}
use Rattle.sm_cbor.specs.steps.Marks.{Keys, plain, marked, key_of}
use Rattle.sm_cbor.specs.steps.Reading.{EndsAs}
use Rattle.sm_cbor.specs.steps.Rest.{CborEnds, ItemComes, CborKeyComes, StringEnded, ChunksCome, SpanEnded, CborStringComes}
use Rattle.sm_cbor.specs.steps.Rest.{ArgumentEnded, ArgumentComes, before_span, CborRestAt}
use Rattle.sm_cbor.specs.declared.place.StringKind.{StringKind}
use Rattle.sm_cbor.specs.declared.place.StringKind.TheVariants.{Bytes, Text, Key as KeyText}
use Rattle.sm_cbor.specs.declared.place.Span.{Span}
use Rattle.sm_cbor.specs.declared.place.Span.TheVariants.{Whole, Chunk}
use Rattle.sm_cbor.specs.declared.place.Subject.{Subject}
use Rattle.sm_cbor.specs.declared.place.Subject.TheVariants.{Unsigned, Negative, String as StringHead, List as ListHead, Map as MapHead}
use Rattle.sm_cbor.specs.declared.place.Subject.TheVariants.{Tag as TagHead, Opaque}
use Rattle.sm_cbor.specs.declared.place.Level.{Level}
use Rattle.sm_cbor.specs.declared.place.Level.TheVariants.{Tag, List as AList, ListToBreak as AListToBreak, Map as AMap}
use Rattle.sm_cbor.specs.declared.place.Level.TheVariants.{MapToBreak as AMapToBreak}
use Rattle.sm_cbor.specs.declared.place.CborPlace.{CborPlace}
use Rattle.sm_cbor.specs.declared.place.CborPlace.TheVariants.{Item, Key, After, Argument as InArgument, String, Chunks}
use Rattle.sm_cbor.specs.steps.Machine.{opens, ArgumentLives, Lives}
use Rattle.sm_cbor.proofs.Timings.{counted_timed, counted_pairs_timed}

-- as many nulls as are counted, and as many pairs of an empty text and null
nulls : ℕ → Nodes
nulls zero = no_nodes
nulls (suc n) = node null (nulls n)

null_bytes : ℕ → List ℕ → List ℕ
null_bytes zero s = s
null_bytes (suc n) s = 0xF6 ∷ null_bytes n s

nulls_come : (w : Keys) (n : ℕ) (s : List ℕ) → CountedEntries (key_of w) n (nulls n) (null_bytes n s) s
unfolding nulls null_bytes
nulls_come w zero s = (refl, refl)
nulls_come w (suc n) s = (n, refl, null_bytes n s, inl (refl, refl), nulls_come w n s)

nulls_flat : (n : ℕ) → nodes_levels (nulls n) ≡ 0
unfolding nulls
nulls_flat zero = refl
nulls_flat (suc n) = let f = nulls_flat n in omega arith

pairs : ℕ → Members
pairs zero = no_members
pairs (suc n) = member [] null (pairs n)

pair_bytes : ℕ → List ℕ → List ℕ
pair_bytes zero s = s
pair_bytes (suc n) s = 0x60 ∷ 0xF6 ∷ pair_bytes n s

empty_key : (w : Keys) (s : List ℕ) → key_of w [] (0x60 ∷ s) s
empty_key plain s = inl (s, (refl, inl (omega arith, (refl, refl))), refl, IsUtf8-nil)
empty_key marked s = inl (inl (s, (refl, inl (omega arith, (refl, refl))), refl, IsUtf8-nil))

pairs_come : (w : Keys) (n : ℕ) (s : List ℕ) → CountedPairs (key_of w) n (pairs n) (pair_bytes n s) s
unfolding pairs pair_bytes
pairs_come w zero s = (refl, refl)
pairs_come w (suc n) s = (
  n,
  refl,
  0xF6 ∷ pair_bytes n s,
  pair_bytes n s,
  empty_key w (0xF6 ∷ pair_bytes n s),
  inl (refl, refl),
  pairs_come
      w n s,
)

pairs_flat : (n : ℕ) → members_levels (pairs n) ≡ 0
unfolding pairs
pairs_flat zero = refl
pairs_flat (suc n) = let f = pairs_flat n in omega arith

-- the rest of all that is open
abbrev Can : (List ℕ → List TimedEvent → Type 0) → Type 0
Can P = (s : List ℕ) × (es : List TimedEvent) × P s es

pub ends_can : (w : Keys) (limit : ℕ) (ls : List Level) → length ls ≤ limit → Can (CborEnds w limit ls)
ends_can w limit [] room = ([], [], (refl, refl))
ends_can w limit (Tag ∷ ls) room = ends_can w limit ls (omega arith)
ends_can w limit (AList n ∷ ls) room =
    let (s, es, en) = ends_can w limit ls (omega arith) in
    let flat = nulls_flat n in
    let (ts, come) = counted_timed (key_of w) n (nulls n) (null_bytes n s) s es (nulls_come w n s) in
    (null_bytes n s, ts, (nulls n, s, es, come, omega arith, en))
ends_can w limit (AListToBreak ∷ ls) room =
    let (s, es, en) = ends_can w limit ls (omega arith) in
    (0xFF ∷ s, by_byte end_list (length s) ∷ es, (no_nodes, s, es, ((refl, refl), refl), omega arith, en))
ends_can w limit (AMap n ∷ ls) room =
    let (s, es, en) = ends_can w limit ls (omega arith) in
    let flat = pairs_flat n in
    let (ts, come) = counted_pairs_timed (key_of w) n (pairs n) (pair_bytes n s) s es (pairs_come w n s) in
    (pair_bytes n s, ts, (pairs n, s, es, come, omega arith, en))
ends_can w limit (AMapToBreak ∷ ls) room =
    let (s, es, en) = ends_can w limit ls (omega arith) in
    (0xFF ∷ s, by_byte end_object (length s) ∷ es, (no_members, s, es, ((refl, refl), refl), omega arith, en))

pub item_can : (w : Keys) (limit : ℕ) (ls : List Level) → length ls ≤ limit → Can (ItemComes w limit ls)
item_can w limit ls room =
    let (s, es, en) = ends_can w limit ls room in
    (0xF6 ∷ s, by_byte null_event (length s) ∷ es, (null, s, es, (inl (refl, refl), refl), omega arith, en))

key_can : (w : Keys) (limit : ℕ) (ls : List Level) → length ls ≤ limit → Can (CborKeyComes w limit ls)
key_can w limit ls room =
    let (s, es, item) = item_can w limit ls room in
    (0x60 ∷ s, by_byte (key_event []) (length s) ∷ es, ([], s, es, empty_key w s, item, refl))

-- the rest of a string
string_ended_can : (w : Keys) (limit : ℕ) (kind : StringKind) (t : List ℕ) (ls : List Level) → length ls ≤ limit
    → Can (StringEnded w limit kind t ls)
string_ended_can w limit Bytes t ls room = let (s, es, en) = ends_can w limit ls room in
    (s, by_byte (bytes_event t) (length s) ∷ es, (es, en, refl))
string_ended_can w limit Text t ls room = let (s, es, en) = ends_can w limit ls room in
    (s, by_byte (text_event t) (length s) ∷ es, (es, en, refl))
string_ended_can w limit KeyText t ls room = let (s, es, item) = item_can w limit ls room in
    (s, by_byte (key_event t) (length s) ∷ es, (es, item, refl))

chunks_can : (w : Keys) (limit : ℕ) (kind : StringKind) (t : List ℕ) (ls : List Level) → length ls ≤ limit
    → Can (ChunksCome w limit kind t ls)
chunks_can w limit kind t ls room = let (s, es, h) = string_ended_can w limit kind (t ++ []) ls room in
    (0xFF ∷ s, es, ([], s, (refl, refl), h))

span_can : (w : Keys) (limit : ℕ) (kind : StringKind) (span : Span) (t : List ℕ) (ls : List Level) → length ls ≤ limit
    → Can (SpanEnded w limit kind span t ls)
span_can w limit kind Whole t ls room = string_ended_can w limit kind t ls room
span_can w limit kind Chunk t ls room = chunks_can w limit kind t ls room

zeros_on : (n : ℕ) → (u : List ℕ) × (length u ≡ n) × AreBytes u
zeros_on zero = ([], refl, tt)
zeros_on (suc n) = let (u, len, are) = zeros_on n in (0 ∷ u, ap suc len, (omega arith, are))

as_on : (kind : StringKind) (place : Utf8) (n : ℕ) → utf8.owed place ≤ n → (u : List ℕ) × (length u ≡ n) × EndsAs kind place u
as_on Bytes place n room = zeros_on n
as_on Text place n room = rest_goes_on place n room
as_on KeyText place n room = rest_goes_on place n room

string_can : (w : Keys) (limit : ℕ) (kind : StringKind) (span : Span) (n : ℕ) (place : Utf8) (t : List ℕ) (ls : List Level)
    → length ls ≤ limit → utf8.owed place ≤ n
    → Can (CborStringComes w limit kind span n place t ls)
string_can w limit kind span n place t ls room owes =
    let (u, len, ends) = as_on kind place n owes in
    let (s, es, more) = span_can w limit kind span (t ++ u) ls room in
    (u ++ s, es, (u, s, refl, len, ends, more))

-- the rest of an argument
abbrev SomeNumber : ℕ → ℕ → ℕ → Type 0
SomeNumber k v n = (p : List ℕ) × ((s : List ℕ) → Number k v n (p ++ s) s)

number_on : (k v : ℕ) → (n : ℕ) × SomeNumber k v n
number_on zero v = (v, ([], λ s. (refl, refl)))
number_on (suc k) v = let (n, more) = number_on k (v * 256 + 0) in (n, (0 ∷ more.0, λ s. (omega arith, more.1 s)))

-- whatever it is, it comes to something
ended_can : (w : Keys) (limit : ℕ) (j : Subject) (n : ℕ) (t : List ℕ) (ls : List Level) → length ls + opens (InArgument j 0 n) ≤ limit
    → ((b : ℕ) → j ≡ Opaque b → IsOpaque (b % 32) n) → Can (ArgumentEnded w limit j n t ls)
ended_can w limit Unsigned n t ls room opq = let (s, es, en) = ends_can w limit ls (omega arith) in (s, _, (es, en, refl))
ended_can w limit Negative n t ls room opq = let (s, es, en) = ends_can w limit ls (omega arith) in (s, _, (es, en, refl))
ended_can w limit (StringHead kind span) n t ls room opq =
    string_can w limit kind span n Between (before_span span t) ls (omega arith) (omega arith)
ended_can w limit ListHead n t ls room opq = let (s, es, en) = ends_can w limit (AList n ∷ ls) (omega arith) in
    (s, by_byte (start_list (Some n)) (length s) ∷ es, (es, en, refl))
ended_can w limit MapHead n t ls room opq = let (s, es, en) = ends_can w limit (AMap n ∷ ls) (omega arith) in
    (s, by_byte (start_object (Some n)) (length s) ∷ es, (es, en, refl))
ended_can w limit TagHead n t ls room opq = let (s, es, item) = item_can w limit (Tag ∷ ls) (omega arith) in
    (s, by_byte (tag_event n) (length s) ∷ es, (es, item, refl))
ended_can w limit (Opaque b) n t ls room opq = let (s, es, en) = ends_can w limit ls (omega arith) in
    (s, by_byte (opaque_event b) (length s) ∷ es, (es, opq b refl, en, refl))

from_number : (w : Keys) (limit : ℕ) (j : Subject) (k v n : ℕ) (t : List ℕ) (ls : List Level) → SomeNumber k v n
    → Can (ArgumentEnded w limit j n t ls) → Can (ArgumentComes w limit j k v t ls)
from_number w limit j k v n t ls (p, number) (s, es, ended) = (p ++ s, es, (n, s, number s, ended))

flat_can : (w : Keys) (limit : ℕ) (j : Subject) (k v : ℕ) (t : List ℕ) (ls : List Level) → length ls + opens (InArgument j k v) ≤ limit
    → ((b : ℕ) → j ≡ Opaque b → ⊥) → Can (ArgumentComes w limit j k v t ls)
flat_can w limit j k v t ls room other =
    let (n, number) = number_on k v in from_number w limit j k v n t ls number (ended_can w limit j n t ls room (λ b e. absurd (other b e)))

opaque_can : (w : Keys) (limit b k v : ℕ) (t : List ℕ) (ls : List Level) → length ls + 0 ≤ limit → ArgumentLives (Opaque b) k v
    → Can (ArgumentComes w limit (Opaque b) k v t ls)
opaque_can w limit b k v t ls room (inl (e, is)) =
    let (s, es, en) = ends_can w limit ls (omega arith) in
    (s, by_byte (opaque_event b) (length s) ∷ es, (v, s, subst (λ x. Number x v v s s) (sym e) (refl, refl), (es, is, en, refl)))
opaque_can w limit b k v t ls room (inr (inl (info, e, f))) =
    let (s, es, en) = ends_can w limit ls (omega arith) in (
      32 ∷ s,
      by_byte (opaque_event b) (length s) ∷ es,
      (
        32,
        s,
        subst (λ x. Number x v 32 (32 ∷ s) s) (sym e)
            (subst (λ x. Number 1 x 32 (32 ∷ s) s) (sym f) (omega arith, (refl, refl))),
        (es, inr (inl (let f = info in omega arith, omega arith)), en, refl),
      ),
    )
opaque_can w limit b k v t ls room (inr (inr high)) =
    let (n, number) = number_on k v in
    let (s, es, en) = ends_can w limit ls (omega arith) in
    from_number w limit (Opaque b) k v n t ls number (s, by_byte (opaque_event b) (length s) ∷ es, (es, inr (inr high), en, refl))

argument_can : (w : Keys) (limit : ℕ) (j : Subject) (k v : ℕ) (t : List ℕ) (ls : List Level) → length ls + opens (InArgument j k v) ≤ limit
    → ArgumentLives j k v → Can (ArgumentComes w limit j k v t ls)
argument_can w limit Unsigned k v t ls room lives = flat_can w limit Unsigned k v t ls room (λ b e. cc)
argument_can w limit Negative k v t ls room lives = flat_can w limit Negative k v t ls room (λ b e. cc)
argument_can w limit (StringHead kind span) k v t ls room lives = flat_can w limit (StringHead kind span) k v t ls room (λ b e. cc)
argument_can w limit ListHead k v t ls room lives = flat_can w limit ListHead k v t ls room (λ b e. cc)
argument_can w limit MapHead k v t ls room lives = flat_can w limit MapHead k v t ls room (λ b e. cc)
argument_can w limit TagHead k v t ls room lives = flat_can w limit TagHead k v t ls room (λ b e. cc)
argument_can w limit (Opaque b) k v t ls room lives = opaque_can w limit b k v t ls room lives

-- so something may come at each place that lives
pub goes_on : (w : Keys) (limit : ℕ) (p : CborPlace) (t : List ℕ) (ls : List Level) → length ls + opens p ≤ limit → Lives p
    → Can (CborRestAt w limit p t ls)
goes_on w limit Item t ls room lives = item_can w limit ls (omega arith)
goes_on w limit Key t ls room lives = key_can w limit ls (omega arith)
goes_on w limit After t ls room lives = ends_can w limit ls (omega arith)
goes_on w limit (InArgument j k v) t ls room lives = argument_can w limit j k v t ls room lives
goes_on w limit (String kind span n place) t ls room lives = string_can w limit kind span n place t ls (omega arith) lives
goes_on w limit (Chunks kind) t ls room lives = chunks_can w limit kind t ls (omega arith)
