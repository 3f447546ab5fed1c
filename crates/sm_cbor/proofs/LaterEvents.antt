-- Where a reader stands between two bytes, no event of what may come is complete: none is handed on late.
use Rattle.std.proofs.Common.{◌≤◌, ◌<◌, ◌+◌, ℕ, suc, zero, inl, inr, List, [], ◌∷◌, ◌++◌, Some, None, sym, ap, subst, arith, length}
use Rattle.std.proofs.Common.{length-append}
use Rattle.std.specs.List.{concat}
use Rattle.sm_tree.specs.Node.{Node, Nodes, Members, null, bool, int, number, text, bytes, tag, opaque, list, object, no_nodes, node}
use Rattle.sm_tree.specs.Node.{no_members, member}
use Rattle.sm_tree.specs.Events.{NodeEvent, null_event, bool_event, int_event, number_event, text_event, bytes_event, tag_event}
use Rattle.sm_tree.specs.Events.{opaque_event, start_list, end_list, start_object, key_event, end_object}
use Rattle.sm_tree.specs.Timing.{TimedEvent}
use Rattle.sm_tree.specs.steps.Handing.{AreLater}
use Rattle.sm_bytes.specs.declared.utf8.Utf8.{Utf8}
use Rattle.sm_bytes.specs.declared.utf8.Utf8.TheVariants.{Between}
use Rattle.sm_cbor.specs.Heads.{Number}
use Rattle.sm_cbor.specs.CborItem.{KeyForm}
use Rattle.sm_cbor.specs.Timing.{CompleteAt, ItemTimed, CountedEntriesTimed, EntriesToBreakTimed, CountedPairsTimed, PairsToBreakTimed}
use Rattle.sm_cbor.specs.steps.Marks.{Keys, plain, marked, key_of}
use Rattle.sm_cbor.specs.steps.Reading.{major_of, IsOf, integer_event}
use Rattle.sm_cbor.specs.steps.Rest.{CborEnds, ItemComes, CborKeyComes, StringEnded, ChunksCome, SpanEnded, CborStringComes, before_span}
use Rattle.sm_cbor.specs.steps.Rest.{ArgumentEnded, ArgumentComes, CborRestAt}
use Rattle.sm_cbor.specs.steps.Machine.{BehindItem, Begun}
use Rattle.sm_cbor.specs.declared.place.StringKind.{StringKind}
use Rattle.sm_cbor.specs.declared.place.StringKind.TheVariants.{Bytes, Text, Key as KeyText}
use Rattle.sm_cbor.specs.declared.place.Span.{Span}
use Rattle.sm_cbor.specs.declared.place.Span.TheVariants.{Whole, Chunk}
use Rattle.sm_cbor.specs.declared.place.Subject.{Subject}
use Rattle.sm_cbor.specs.declared.place.Subject.TheVariants.{Unsigned, Negative, String as StringHead, List as ListHead, Map as MapHead}
use Rattle.sm_cbor.specs.declared.place.Subject.TheVariants.{Tag as TagHead, Opaque}
use Rattle.sm_cbor.specs.declared.place.Level.{Level}
use Rattle.sm_cbor.specs.declared.place.Level.TheVariants.{Tag, List as AList, ListToBreak as AListToBreak, Map as AMap}
use Rattle.sm_cbor.specs.declared.place.Level.TheVariants.{MapToBreak as AMapToBreak}
use Rattle.sm_cbor.specs.declared.place.CborPlace.{CborPlace}
use Rattle.sm_cbor.specs.declared.place.CborPlace.TheVariants.{Item, Key as KeyPlace, After, Argument as InArgument, String, Chunks}
use Rattle.sm_cbor.proofs.Shorter.{HasByte, text_has_byte, head_short, byte_short, chunks_short, number_short, item_short, counted_short}
use Rattle.sm_cbor.proofs.Shorter.{entries_short, counted_pairs_short, pairs_short}

key_has_byte : (w : Keys) → HasByte (key_of w)
key_has_byte plain k s r h = text_has_byte k s r h
key_has_byte marked k s r (inl h) = text_has_byte k s r h
key_has_byte marked k s r (inr h) = byte_short 256 s r h.0

told_later : (left : ℕ) (e : NodeEvent) (r : List ℕ) (ts us : List TimedEvent) → CompleteAt e r ts us → length r < left → AreLater left us
    → AreLater left ts
told_later left e r ts us is less later = subst (AreLater left) (sym is) (less, later)

mutual
  -- the events of an item are complete with its bytes, and never before
  item_later : (left : ℕ) (Key : KeyForm) → HasByte Key → (n : Node) (s r : List ℕ) (ts us : List TimedEvent) → ItemTimed Key n s r ts us
      → length s ≤ left → AreLater left us → AreLater left ts
  item_later left Key has null s r ts us h few later =
      let less = item_short Key has null s r ts us h in told_later left null_event r ts us h.1 (omega arith) later
  item_later left Key has (bool b) s r ts us h few later =
      let less = item_short Key has (bool b) s r ts us h in told_later left (bool_event b) r ts us h.1 (omega arith) later
  item_later left Key has (int z) s r ts us h few later =
      let less = item_short Key has (int z) s r ts us h in told_later left (int_event z) r ts us h.1 (omega arith) later
  item_later left Key has (number t) s r ts us h few later =
      let less = item_short Key has (number t) s r ts us h in told_later left (number_event t) r ts us h.1 (omega arith) later
  item_later left Key has (text t) s r ts us h few later =
      let less = item_short Key has (text t) s r ts us h in told_later left (text_event t) r ts us h.1 (omega arith) later
  item_later left Key has (bytes t) s r ts us h few later =
      let less = item_short Key has (bytes t) s r ts us h in told_later left (bytes_event t) r ts us h.1 (omega arith) later
  item_later left Key has (tag k n) s r ts us (s1, vs, head, e, h) few later =
      let less = head_short 6 k s s1 head in
      told_later left (tag_event k) s1 ts vs e (omega arith) (item_later left Key has n s1 r vs us h (omega arith) later)
  item_later left Key has (opaque b) s r ts us h few later =
      let less = item_short Key has (opaque b) s r ts us h in told_later left (opaque_event b) r ts us h.1 (omega arith) later
  item_later left Key has (list ns) s r ts us (inl (n, s1, vs, head, e, h)) few later =
      let less = head_short 4 n s s1 head in
      told_later left (start_list (Some n)) s1 ts vs e (omega arith) (counted_later left Key has n ns s1 r vs us h (omega arith) later)
  item_later left Key has (list ns) s r ts us (inr (s1, vs, head, e, h)) few later =
      let less = byte_short 0x9F s s1 head in
      told_later left (start_list None) s1 ts vs e (omega arith) (entries_later left Key has ns s1 r vs us h (omega arith) later)
  item_later left Key has (object ms) s r ts us (inl (n, s1, vs, head, e, h)) few later =
      let less = head_short 5 n s s1 head in
      told_later left (start_object (Some n)) s1 ts vs e (omega arith)
      (counted_pairs_later left Key has n ms s1 r vs us h (omega arith) later)
  item_later left Key has (object ms) s r ts us (inr (s1, vs, head, e, h)) few later =
      let less = byte_short 0xBF s s1 head in
      told_later left (start_object None) s1 ts vs e (omega arith) (pairs_later left Key has ms s1 r vs us h (omega arith) later)

  counted_later : (left : ℕ) (Key : KeyForm) → HasByte Key → (n : ℕ) (ns : Nodes) (s r : List ℕ) (ts us : List TimedEvent)
      → CountedEntriesTimed Key n ns s r ts us → length s < left → AreLater left us → AreLater left ts
  counted_later left Key has n no_nodes s r ts us (none, same, e) few later =
      let all = ap length same in told_later left end_list r ts us e (omega arith) later
  counted_later left Key has n (node x xs) s r ts us (m, is, s1, vs, h, more) few later =
      let less = item_short Key has x s s1 ts vs h in
      item_later left Key has x s s1 ts vs h (omega arith) (counted_later left Key has m xs s1 r vs us more (omega arith) later)

  entries_later : (left : ℕ) (Key : KeyForm) → HasByte Key → (ns : Nodes) (s r : List ℕ) (ts us : List TimedEvent)
      → EntriesToBreakTimed Key ns s r ts us → length s ≤ left → AreLater left us → AreLater left ts
  entries_later left Key has no_nodes s r ts us (h, e) few later =
      let less = byte_short 0xFF s r h in told_later left end_list r ts us e (omega arith) later
  entries_later left Key has (node x xs) s r ts us (s1, vs, h, more) few later =
      let less = item_short Key has x s s1 ts vs h in
      item_later left Key has x s s1 ts vs h (omega arith) (entries_later left Key has xs s1 r vs us more (omega arith) later)

  counted_pairs_later : (left : ℕ) (Key : KeyForm) → HasByte Key → (n : ℕ) (ms : Members) (s r : List ℕ) (ts us : List TimedEvent)
      → CountedPairsTimed Key n ms s r ts us → length s < left → AreLater left us → AreLater left ts
  counted_pairs_later left Key has n no_members s r ts us (none, same, e) few later =
      let all = ap length same in told_later left end_object r ts us e (omega arith) later
  counted_pairs_later left Key has n (member k x ms) s r ts us (m, is, s1, s2, vs, ws, key, e, h, more) few later =
      let less = has k s s1 key in
      let shorter = item_short Key has x s1 s2 vs ws h in
      told_later left (key_event k) s1 ts vs e (omega arith)
      (item_later left Key has x s1 s2 vs ws h (omega arith) (counted_pairs_later left Key has m ms s2 r ws us more (omega arith) later))

  pairs_later : (left : ℕ) (Key : KeyForm) → HasByte Key → (ms : Members) (s r : List ℕ) (ts us : List TimedEvent)
      → PairsToBreakTimed Key ms s r ts us → length s ≤ left → AreLater left us → AreLater left ts
  pairs_later left Key has no_members s r ts us (h, e) few later =
      let less = byte_short 0xFF s r h in told_later left end_object r ts us e (omega arith) later
  pairs_later left Key has (member k x ms) s r ts us (s1, s2, vs, ws, key, e, h, more) few later =
      let less = has k s s1 key in
      let shorter = item_short Key has x s1 s2 vs ws h in
      told_later left (key_event k) s1 ts vs e (omega arith)
      (item_later left Key has x s1 s2 vs ws h (omega arith) (pairs_later left Key has ms s2 r ws us more (omega arith) later))

-- behind an item, where a byte more is to come
ends_later : (left : ℕ) (w : Keys) (limit : ℕ) (ls : List Level) (s : List ℕ) (es : List TimedEvent) → CborEnds w limit ls s es
    → length s < left → AreLater left es
ends_later left w limit [] s es (none, is) few = subst (AreLater left) (sym is) tt
ends_later left w limit (Tag ∷ ls) s es h few = ends_later left w limit ls s es h few
ends_later left w limit (AList n ∷ ls) s es (ns, r, fs, h, room, en) few =
    let short = counted_short (key_of w) (key_has_byte w) n ns s r es fs h in
    counted_later left (key_of w) (key_has_byte w) n ns s r es fs h few (ends_later left w limit ls r fs en (omega arith))
ends_later left w limit (AListToBreak ∷ ls) s es (ns, r, fs, h, room, en) few =
    let short = entries_short (key_of w) (key_has_byte w) ns s r es fs h in
    entries_later left (key_of w) (key_has_byte w) ns s r es fs h (omega arith) (ends_later left w limit ls r fs en (omega arith))
ends_later left w limit (AMap n ∷ ls) s es (ms, r, fs, h, room, en) few =
    let short = counted_pairs_short (key_of w) (key_has_byte w) n ms s r es fs h in
    counted_pairs_later left (key_of w) (key_has_byte w) n ms s r es fs h few (ends_later left w limit ls r fs en (omega arith))
ends_later left w limit (AMapToBreak ∷ ls) s es (ms, r, fs, h, room, en) few =
    let short = pairs_short (key_of w) (key_has_byte w) ms s r es fs h in
    pairs_later left (key_of w) (key_has_byte w) ms s r es fs h (omega arith) (ends_later left w limit ls r fs en (omega arith))

-- where nothing is open, or what ends with a break
after_later : (w : Keys) (limit : ℕ) (ls : List Level) (s : List ℕ) (es : List TimedEvent) → BehindItem ls → CborEnds w limit ls s es
    → AreLater (length s) es
after_later w limit [] s es begun (none, is) = subst (AreLater (length s)) (sym is) tt
after_later w limit (Tag ∷ ls) s es begun h = absurd begun
after_later w limit (AList n ∷ ls) s es begun h = absurd begun
after_later w limit (AListToBreak ∷ ls) s es begun (ns, r, fs, h, room, en) =
    let short = entries_short (key_of w) (key_has_byte w) ns s r es fs h in
    entries_later (length s) (key_of w) (key_has_byte w) ns s r es fs h (omega arith)
    (ends_later (length s) w limit ls r fs en (omega arith))
after_later w limit (AMap n ∷ ls) s es begun h = absurd begun
after_later w limit (AMapToBreak ∷ ls) s es begun (ms, r, fs, h, room, en) =
    let short = pairs_short (key_of w) (key_has_byte w) ms s r es fs h in
    pairs_later (length s) (key_of w) (key_has_byte w) ms s r es fs h (omega arith) (ends_later (length s) w limit ls r fs en (omega arith))

item_comes_later : (left : ℕ) (w : Keys) (limit : ℕ) (ls : List Level) (s : List ℕ) (es : List TimedEvent) → ItemComes w limit ls s es
    → length s ≤ left → AreLater left es
item_comes_later left w limit ls s es (n, r, fs, h, room, en) few =
    let short = item_short (key_of w) (key_has_byte w) n s r es fs h in
    item_later left (key_of w) (key_has_byte w) n s r es fs h few (ends_later left w limit ls r fs en (omega arith))

key_comes_later : (w : Keys) (limit : ℕ) (ls : List Level) (s : List ℕ) (es : List TimedEvent) → CborKeyComes w limit ls s es
    → AreLater (length s) es
key_comes_later w limit ls s es (k, s1, fs, key, item, e) =
    let less = key_has_byte w k s s1 key in
    told_later (length s) (key_event k) s1 es fs e less (item_comes_later (length s) w limit ls s1 fs item (omega arith))

-- behind the last byte of a string, and before it
string_ended_later : (left : ℕ) (w : Keys) (limit : ℕ) (kind : StringKind) (t : List ℕ) (ls : List Level) (s : List ℕ)
    (es : List TimedEvent)
    → StringEnded w limit kind t ls s es → length s < left → AreLater left es
string_ended_later left w limit Bytes t ls s es (fs, en, e) few =
    told_later left (bytes_event t) s es fs e few (ends_later left w limit ls s fs en few)
string_ended_later left w limit Text t ls s es (fs, en, e) few =
    told_later left (text_event t) s es fs e few (ends_later left w limit ls s fs en few)
string_ended_later left w limit KeyText t ls s es (fs, item, e) few =
    told_later left (key_event t) s es fs e few (item_comes_later left w limit ls s fs item (omega arith))

chunks_come_later : (left : ℕ) (w : Keys) (limit : ℕ) (kind : StringKind) (t : List ℕ) (ls : List Level) (s : List ℕ) (es : List TimedEvent)
    → ChunksCome w limit kind t ls s es → length s ≤ left → AreLater left es
chunks_come_later left w limit kind t ls s es (ts, r, chunks, ended) few =
    let less = chunks_short (major_of kind) (IsOf kind) ts s r chunks in
    string_ended_later left w limit kind (t ++ concat ts) ls r es ended (omega arith)

span_later : (left : ℕ) (w : Keys) (limit : ℕ) (kind : StringKind) (span : Span) (t : List ℕ) (ls : List Level) (s : List ℕ)
    (es : List TimedEvent) → SpanEnded w limit kind span t ls s es → length s < left → AreLater left es
span_later left w limit kind Whole t ls s es h few = string_ended_later left w limit kind t ls s es h few
span_later left w limit kind Chunk t ls s es h few = chunks_come_later left w limit kind t ls s es h (omega arith)

string_later : (left : ℕ) (w : Keys) (limit : ℕ) (kind : StringKind) (span : Span) (n : ℕ) (place : Utf8) (t : List ℕ) (ls : List Level)
    (s : List ℕ) (es : List TimedEvent) → CborStringComes w limit kind span n place t ls s es → length s < left + n → AreLater left es
string_later left w limit kind span n place t ls s es (u, r, split, len, ends, more) few =
    let all = ap length split in
    let both = length-append u r in
    span_later left w limit kind span (t ++ u) ls r es more (omega arith)

-- behind the last byte of an argument, and before it
ended_later : (left : ℕ) (w : Keys) (limit : ℕ) (j : Subject) (n : ℕ) (t : List ℕ) (ls : List Level) (s : List ℕ) (es : List TimedEvent)
    → ArgumentEnded w limit j n t ls s es → length s < left → AreLater left es
ended_later left w limit Unsigned n t ls s es (fs, en, e) few =
    told_later left (integer_event n _) s es fs e few (ends_later left w limit ls s fs en few)
ended_later left w limit Negative n t ls s es (fs, en, e) few =
    told_later left (integer_event n _) s es fs e few (ends_later left w limit ls s fs en few)
ended_later left w limit (StringHead kind span) n t ls s es h few =
    string_later left w limit kind span n Between (before_span span t) ls s es h (omega arith)
ended_later left w limit ListHead n t ls s es (fs, en, e) few =
    told_later left (start_list (Some n)) s es fs e few (ends_later left w limit (AList n ∷ ls) s fs en few)
ended_later left w limit MapHead n t ls s es (fs, en, e) few =
    told_later left (start_object (Some n)) s es fs e few (ends_later left w limit (AMap n ∷ ls) s fs en few)
ended_later left w limit TagHead n t ls s es (fs, item, e) few =
    told_later left (tag_event n) s es fs e few (item_comes_later left w limit (Tag ∷ ls) s fs item (omega arith))
ended_later left w limit (Opaque b) n t ls s es (fs, is, en, e) few =
    told_later left (opaque_event b) s es fs e few (ends_later left w limit ls s fs en few)

some_number : (k v n : ℕ) (s r : List ℕ) → 0 < k → Number k v n s r → length r < length s
some_number zero v n s r some h = absurd (omega arith)
some_number (suc k) v n [] r some h = absurd h
some_number (suc k) v n (b ∷ s) r some h = let less = number_short k _ n s r h.1 in omega arith

argument_later : (w : Keys) (limit : ℕ) (j : Subject) (k v : ℕ) (t : List ℕ) (ls : List Level) (s : List ℕ) (es : List TimedEvent) → 0 < k
    → ArgumentComes w limit j k v t ls s es → AreLater (length s) es
argument_later w limit j k v t ls s es some (n, r, digits, ended) =
    ended_later (length s) w limit j n t ls r es ended (some_number k v n s r some digits)

-- so nothing that may come is complete already
pub rest_later : (w : Keys) (limit : ℕ) (p : CborPlace) (t : List ℕ) (ls : List Level) (s : List ℕ) (es : List TimedEvent) → Begun p ls
    → CborRestAt w limit p t ls s es → AreLater (length s) es
rest_later w limit Item t ls s es begun h = item_comes_later (length s) w limit ls s es h (omega arith)
rest_later w limit KeyPlace t ls s es begun h = key_comes_later w limit ls s es h
rest_later w limit After t ls s es begun h = after_later w limit ls s es begun h
rest_later w limit (InArgument j k v) t ls s es begun h = argument_later w limit j k v t ls s es begun h
rest_later w limit (String kind span n place) t ls s es begun h =
    string_later (length s) w limit kind span n place t ls s es h (omega arith)
rest_later w limit (Chunks kind) t ls s es begun h = chunks_come_later (length s) w limit kind t ls s es h (omega arith)
