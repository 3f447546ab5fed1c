-- Each item has events with their times, and what has them is an item, whose events are a stream of its tree.
use Rattle.std.proofs.Common.{◌≡◌, ℕ, suc, inl, inr, List, [], ◌∷◌, Some, None, refl, ap, ◌∙◌, length}
use Rattle.sm_tree.specs.Node.{Node, Nodes, Members, null, bool, int, number, text, bytes, tag, opaque, list, object, no_nodes, node}
use Rattle.sm_tree.specs.Node.{no_members, member}
use Rattle.sm_tree.specs.Events.{null_event, bool_event, int_event, number_event, text_event, bytes_event, tag_event, opaque_event}
use Rattle.sm_tree.specs.Events.{start_list, end_list, start_object, key_event, end_object}
use Rattle.sm_tree.specs.Streams.{Streams, EntriesStream, PairsStream, entry_count, pair_count}
use Rattle.sm_tree.specs.Timing.{TimedEvent, by_byte, untimed}
use Rattle.sm_tree.specs.TimingLaws.{TimesTexts}
use Rattle.sm_cbor.specs.CborItem.{KeyForm, TextString, Item, CborItem, CountedEntries, EntriesToBreak, CountedPairs, PairsToBreak}
use Rattle.sm_cbor.specs.Timing.{ItemTimed, CountedEntriesTimed, EntriesToBreakTimed, CountedPairsTimed, PairsToBreakTimed, cbor_timing}

-- the events of an item, with their times, before others
abbrev HasTimes : (List TimedEvent → Type 0) → Type 0
HasTimes P = (ts : List TimedEvent) × P ts

mutual
  pub item_timed : (Key : KeyForm) (n : Node) (s r : List ℕ) (us : List TimedEvent) → Item Key n s r
      → HasTimes (λ ts. ItemTimed Key n s r ts us)
  item_timed Key null s r us h = (by_byte null_event (length r) ∷ us, (h, refl))
  item_timed Key (bool b) s r us h = (by_byte (bool_event b) (length r) ∷ us, (h, refl))
  item_timed Key (int z) s r us h = (by_byte (int_event z) (length r) ∷ us, (h, refl))
  item_timed Key (number t) s r us h = (by_byte (number_event t) (length r) ∷ us, (h, refl))
  item_timed Key (text t) s r us h = (by_byte (text_event t) (length r) ∷ us, (h, refl))
  item_timed Key (bytes t) s r us h = (by_byte (bytes_event t) (length r) ∷ us, (h, refl))
  item_timed Key (tag k n) s r us (s1, head, h) =
      let (vs, there) = item_timed Key n s1 r us h in (by_byte (tag_event k) (length s1) ∷ vs, (s1, vs, head, refl, there))
  item_timed Key (opaque b) s r us h = (by_byte (opaque_event b) (length r) ∷ us, (h, refl))
  item_timed Key (list ns) s r us (inl (n, s1, head, h)) =
      let (vs, there) = counted_timed Key n ns s1 r us h in
      (by_byte (start_list (Some n)) (length s1) ∷ vs, inl (n, s1, vs, head, refl, there))
  item_timed Key (list ns) s r us (inr (s1, head, h)) =
      let (vs, there) = entries_timed Key ns s1 r us h in
      (by_byte (start_list None) (length s1) ∷ vs, inr (s1, vs, head, refl, there))
  item_timed Key (object ms) s r us (inl (n, s1, head, h)) =
      let (vs, there) = counted_pairs_timed Key n ms s1 r us h in
      (by_byte (start_object (Some n)) (length s1) ∷ vs, inl (n, s1, vs, head, refl, there))
  item_timed Key (object ms) s r us (inr (s1, head, h)) =
      let (vs, there) = pairs_timed Key ms s1 r us h in
      (by_byte (start_object None) (length s1) ∷ vs, inr (s1, vs, head, refl, there))

  pub counted_timed : (Key : KeyForm) (n : ℕ) (ns : Nodes) (s r : List ℕ) (us : List TimedEvent) → CountedEntries Key n ns s r
      → HasTimes (λ ts. CountedEntriesTimed Key n ns s r ts us)
  counted_timed Key n no_nodes s r us (e, same) = (by_byte end_list (length r) ∷ us, (e, same, refl))
  counted_timed Key n (node x xs) s r us (m, e, s1, h, more) =
      let (vs, behind) = counted_timed Key m xs s1 r us more in
      let (ts, there) = item_timed Key x s s1 vs h in
      (ts, (m, e, s1, vs, there, behind))

  entries_timed : (Key : KeyForm) (ns : Nodes) (s r : List ℕ) (us : List TimedEvent) → EntriesToBreak Key ns s r
      → HasTimes (λ ts. EntriesToBreakTimed Key ns s r ts us)
  entries_timed Key no_nodes s r us h = (by_byte end_list (length r) ∷ us, (h, refl))
  entries_timed Key (node x xs) s r us (s1, h, more) =
      let (vs, behind) = entries_timed Key xs s1 r us more in
      let (ts, there) = item_timed Key x s s1 vs h in
      (ts, (s1, vs, there, behind))

  pub counted_pairs_timed : (Key : KeyForm) (n : ℕ) (ms : Members) (s r : List ℕ) (us : List TimedEvent) → CountedPairs Key n ms s r
      → HasTimes (λ ts. CountedPairsTimed Key n ms s r ts us)
  counted_pairs_timed Key n no_members s r us (e, same) = (by_byte end_object (length r) ∷ us, (e, same, refl))
  counted_pairs_timed Key n (member k x ms) s r us (m, e, s1, s2, key, h, more) =
      let (ws, behind) = counted_pairs_timed Key m ms s2 r us more in
      let (vs, there) = item_timed Key x s1 s2 ws h in
      (by_byte (key_event k) (length s1) ∷ vs, (m, e, s1, s2, vs, ws, key, refl, there, behind))

  pairs_timed : (Key : KeyForm) (ms : Members) (s r : List ℕ) (us : List TimedEvent) → PairsToBreak Key ms s r
      → HasTimes (λ ts. PairsToBreakTimed Key ms s r ts us)
  pairs_timed Key no_members s r us h = (by_byte end_object (length r) ∷ us, (h, refl))
  pairs_timed Key (member k x ms) s r us (s1, s2, key, h, more) =
      let (ws, behind) = pairs_timed Key ms s2 r us more in
      let (vs, there) = item_timed Key x s1 s2 ws h in
      (by_byte (key_event k) (length s1) ∷ vs, (s1, s2, vs, ws, key, refl, there, behind))

mutual
  pub timed_item : (Key : KeyForm) (n : Node) (s r : List ℕ) (ts us : List TimedEvent) → ItemTimed Key n s r ts us → Item Key n s r
  timed_item Key null s r ts us h = h.0
  timed_item Key (bool b) s r ts us h = h.0
  timed_item Key (int z) s r ts us h = h.0
  timed_item Key (number t) s r ts us h = h.0
  timed_item Key (text t) s r ts us h = h.0
  timed_item Key (bytes t) s r ts us h = h.0
  timed_item Key (tag k n) s r ts us (s1, vs, head, e, h) = (s1, head, timed_item Key n s1 r vs us h)
  timed_item Key (opaque b) s r ts us h = h.0
  timed_item Key (list ns) s r ts us (inl (n, s1, vs, head, e, h)) = inl (n, s1, head, timed_counted Key n ns s1 r vs us h)
  timed_item Key (list ns) s r ts us (inr (s1, vs, head, e, h)) = inr (s1, head, timed_entries Key ns s1 r vs us h)
  timed_item Key (object ms) s r ts us (inl (n, s1, vs, head, e, h)) = inl (n, s1, head, timed_counted_pairs Key n ms s1 r vs us h)
  timed_item Key (object ms) s r ts us (inr (s1, vs, head, e, h)) = inr (s1, head, timed_pairs Key ms s1 r vs us h)

  timed_counted : (Key : KeyForm) (n : ℕ) (ns : Nodes) (s r : List ℕ) (ts us : List TimedEvent) → CountedEntriesTimed Key n ns s r ts us
      → CountedEntries Key n ns s r
  timed_counted Key n no_nodes s r ts us (e, same, is) = (e, same)
  timed_counted Key n (node x xs) s r ts us (m, e, s1, vs, h, more) =
      (m, e, s1, timed_item Key x s s1 ts vs h, timed_counted Key m xs s1 r vs us more)

  timed_entries : (Key : KeyForm) (ns : Nodes) (s r : List ℕ) (ts us : List TimedEvent) → EntriesToBreakTimed Key ns s r ts us
      → EntriesToBreak Key ns s r
  timed_entries Key no_nodes s r ts us h = h.0
  timed_entries Key (node x xs) s r ts us (s1, vs, h, more) = (s1, timed_item Key x s s1 ts vs h, timed_entries Key xs s1 r vs us more)

  timed_counted_pairs : (Key : KeyForm) (n : ℕ) (ms : Members) (s r : List ℕ) (ts us : List TimedEvent)
      → CountedPairsTimed Key n ms s r ts us → CountedPairs Key n ms s r
  timed_counted_pairs Key n no_members s r ts us (e, same, is) = (e, same)
  timed_counted_pairs Key n (member k x ms) s r ts us (m, e, s1, s2, vs, ws, key, is, h, more) =
      (m, e, s1, s2, key, timed_item Key x s1 s2 vs ws h, timed_counted_pairs Key m ms s2 r ws us more)

  timed_pairs : (Key : KeyForm) (ms : Members) (s r : List ℕ) (ts us : List TimedEvent) → PairsToBreakTimed Key ms s r ts us
      → PairsToBreak Key ms s r
  timed_pairs Key no_members s r ts us h = h.0
  timed_pairs Key (member k x ms) s r ts us (s1, s2, vs, ws, key, is, h, more) =
      (s1, s2, key, timed_item Key x s1 s2 vs ws h, timed_pairs Key ms s2 r ws us more)

-- the number that a counted opener tells is how many there are
count_is : (Key : KeyForm) (n : ℕ) (ns : Nodes) (s r : List ℕ) (ts us : List TimedEvent) → CountedEntriesTimed Key n ns s r ts us
    → n ≡ entry_count ns
count_is Key n no_nodes s r ts us h = h.0
count_is Key n (node x xs) s r ts us (m, e, s1, vs, h, more) = e ∙ ap suc (count_is Key m xs s1 r vs us more)

pairs_count_is : (Key : KeyForm) (n : ℕ) (ms : Members) (s r : List ℕ) (ts us : List TimedEvent) → CountedPairsTimed Key n ms s r ts us
    → n ≡ pair_count ms
pairs_count_is Key n no_members s r ts us h = h.0
pairs_count_is Key n (member k x ms) s r ts us (m, e, s1, s2, vs, ws, key, is, h, more) =
    e ∙ ap suc (pairs_count_is Key m ms s2 r ws us more)

mutual
  pub timed_stream : (Key : KeyForm) (n : Node) (s r : List ℕ) (ts us : List TimedEvent) → ItemTimed Key n s r ts us
      → Streams n (untimed ts) (untimed us)
  timed_stream Key null s r ts us h = ap untimed h.1
  timed_stream Key (bool b) s r ts us h = ap untimed h.1
  timed_stream Key (int z) s r ts us h = ap untimed h.1
  timed_stream Key (number t) s r ts us h = ap untimed h.1
  timed_stream Key (text t) s r ts us h = ap untimed h.1
  timed_stream Key (bytes t) s r ts us h = ap untimed h.1
  timed_stream Key (tag k n) s r ts us (s1, vs, head, e, h) = (untimed vs, ap untimed e, timed_stream Key n s1 r vs us h)
  timed_stream Key (opaque b) s r ts us h = ap untimed h.1
  timed_stream Key (list ns) s r ts us (inl (n, s1, vs, head, e, h)) =
      (Some n, untimed vs, ap untimed e, count_is Key n ns s1 r vs us h, counted_stream Key n ns s1 r vs us h)
  timed_stream Key (list ns) s r ts us (inr (s1, vs, head, e, h)) =
      (None, untimed vs, ap untimed e, tt, entries_stream Key ns s1 r vs us h)
  timed_stream Key (object ms) s r ts us (inl (n, s1, vs, head, e, h)) =
      (Some n, untimed vs, ap untimed e, pairs_count_is Key n ms s1 r vs us h, counted_pairs_stream Key n ms s1 r vs us h)
  timed_stream Key (object ms) s r ts us (inr (s1, vs, head, e, h)) =
      (None, untimed vs, ap untimed e, tt, pairs_stream Key ms s1 r vs us h)

  counted_stream : (Key : KeyForm) (n : ℕ) (ns : Nodes) (s r : List ℕ) (ts us : List TimedEvent) → CountedEntriesTimed Key n ns s r ts us
      → EntriesStream ns (untimed ts) (untimed us)
  counted_stream Key n no_nodes s r ts us h = ap untimed h.2
  counted_stream Key n (node x xs) s r ts us (m, e, s1, vs, h, more) =
      (untimed vs, timed_stream Key x s s1 ts vs h, counted_stream Key m xs s1 r vs us more)

  entries_stream : (Key : KeyForm) (ns : Nodes) (s r : List ℕ) (ts us : List TimedEvent) → EntriesToBreakTimed Key ns s r ts us
      → EntriesStream ns (untimed ts) (untimed us)
  entries_stream Key no_nodes s r ts us h = ap untimed h.1
  entries_stream Key (node x xs) s r ts us (s1, vs, h, more) =
      (untimed vs, timed_stream Key x s s1 ts vs h, entries_stream Key xs s1 r vs us more)

  counted_pairs_stream : (Key : KeyForm) (n : ℕ) (ms : Members) (s r : List ℕ) (ts us : List TimedEvent)
      → CountedPairsTimed Key n ms s r ts us → PairsStream ms (untimed ts) (untimed us)
  counted_pairs_stream Key n no_members s r ts us h = ap untimed h.2
  counted_pairs_stream Key n (member k x ms) s r ts us (m, e, s1, s2, vs, ws, key, is, h, more) =
      (untimed vs, untimed ws, ap untimed is, timed_stream Key x s1 s2 vs ws h, counted_pairs_stream Key m ms s2 r ws us more)

  pairs_stream : (Key : KeyForm) (ms : Members) (s r : List ℕ) (ts us : List TimedEvent) → PairsToBreakTimed Key ms s r ts us
      → PairsStream ms (untimed ts) (untimed us)
  pairs_stream Key no_members s r ts us h = ap untimed h.1
  pairs_stream Key (member k x ms) s r ts us (s1, s2, vs, ws, key, is, h, more) =
      (untimed vs, untimed ws, ap untimed is, timed_stream Key x s1 s2 vs ws h, pairs_stream Key ms s2 r ws us more)

pub times_texts : TimesTexts CborItem cbor_timing
times_texts = record {
  timed = λ n bs h. item_timed TextString n bs [] [] h;
  text = λ n bs ts h. timed_item TextString n bs [] ts [] h;
  streams = λ n bs ts h. timed_stream TextString n bs [] ts [] h;
}
