-- An item gives two events for each byte at most, and so does what has come of it.
use Rattle.std.proofs.Common.{◌≤◌, ◌<◌, ◌*◌, ◌+◌, ◌-◌, ℕ, inl, inr, true, false, cond, List, [], ◌∷◌, ◌++◌, Some, None, sym, ap, subst}
use Rattle.std.proofs.Common.{arith, length, length-append, IsUtf8}
use Rattle.std.proofs.lemmas.Bool.{cases_lt, le-leb, lt-leb}
use Rattle.sm_tree.specs.Json.{AreBytes}
use Rattle.sm_tree.specs.Node.{Node, Nodes, Members, null, bool, int, number, text, bytes, tag, opaque, list, object, no_nodes, node}
use Rattle.sm_tree.specs.Node.{no_members, member}
use Rattle.sm_tree.specs.Events.{NodeEvent, null_event, bool_event, int_event, number_event, text_event, bytes_event, tag_event}
use Rattle.sm_tree.specs.Events.{opaque_event, start_list, end_list, start_object, key_event, end_object}
use Rattle.sm_tree.specs.Timing.{TimedEvent, by_byte, complete_with}
use Rattle.sm_tree.specs.TimingLaws.{HasFewEvents}
use Rattle.sm_cbor.specs.CborItem.{KeyForm, TextString}
use Rattle.sm_cbor.specs.Timing.{CompleteAt, ItemTimed, CountedEntriesTimed, EntriesToBreakTimed, CountedPairsTimed, PairsToBreakTimed}
use Rattle.sm_cbor.specs.Timing.{cbor_timing}
use Rattle.sm_cbor.proofs.Shorter.{HasByte, text_has_byte, head_short, byte_short, string_short, integer_short, simple_short, item_short}

-- how many are complete where so many of the text's bytes are still to come
abbrev done : ℕ → List TimedEvent → ℕ
done left ts = length (complete_with left ts)

one_more : (left : ℕ) (e : NodeEvent) (r : List ℕ) (us : List TimedEvent)
    → done left (by_byte e (length r) ∷ us) + (length r - left) ≤ done left us + (length r + 1 - left)
one_more left e r us = elim (cases_lt (length r) left) [
  | inl late ↦ let is = ap (λ b. length (cond b (e ∷ complete_with left us) (complete_with left us)))
      (lt-leb left (length r) late) in omega arith
  | inr soon ↦ let is = ap (λ b. length (cond b (e ∷ complete_with left us) (complete_with left us)))
      (le-leb left (length r) soon) in omega arith
]

told_done : (left : ℕ) (e : NodeEvent) (r : List ℕ) (ts us : List TimedEvent) → CompleteAt e r ts us
    → done left ts + (length r - left) ≤ done left us + (length r + 1 - left)
told_done left e r ts us is = subst (λ x. done left x + (length r - left) ≤ done left us + (length r + 1 - left)) (sym is)
    (one_more left e r us)

one_event : (left : ℕ) (e : NodeEvent) (s r : List ℕ) (ts us : List TimedEvent) → CompleteAt e r ts us → length r < length s
    → done left ts + 2 * (length r - left) ≤ done left us + 2 * (length s - left)
one_event left e s r ts us is less = let count = told_done left e r ts us is in omega arith

-- so these are few. Behind the last entry of a stated number its end takes no byte
mutual
  few_events : (left : ℕ) (Key : KeyForm) → HasByte Key → (n : Node) (s r : List ℕ) (ts us : List TimedEvent) → ItemTimed Key n s r ts us
      → done left ts + 2 * (length r - left) ≤ done left us + 2 * (length s - left)
  few_events left Key has null s r ts us (inl h, e) = one_event left null_event s r ts us e (byte_short 0xF6 s r h)
  few_events left Key has null s r ts us (inr h, e) = one_event left null_event s r ts us e (byte_short 0xF7 s r h)
  few_events left Key has (bool false) s r ts us (h, e) = one_event left (bool_event false) s r ts us e (byte_short 0xF4 s r h)
  few_events left Key has (bool true) s r ts us (h, e) = one_event left (bool_event true) s r ts us e (byte_short 0xF5 s r h)
  few_events left Key has (int z) s r ts us (h, e) = one_event left (int_event z) s r ts us e (integer_short z s r h.1)
  few_events left Key has (number t) s r ts us ((z, out, is, h), e) = one_event left (number_event t) s r ts us e (integer_short z s r h)
  few_events left Key has (text t) s r ts us (h, e) = one_event left (text_event t) s r ts us e (string_short 3 IsUtf8 t s r h)
  few_events left Key has (bytes t) s r ts us (h, e) = one_event left (bytes_event t) s r ts us e (string_short 2 AreBytes t s r h)
  few_events left Key has (tag k n) s r ts us (s1, vs, head, e, h) =
      let less = head_short 6 k s s1 head in
      let more = few_events left Key has n s1 r vs us h in
      let count = told_done left (tag_event k) s1 ts vs e in omega arith
  few_events left Key has (opaque b) s r ts us (h, e) = one_event left (opaque_event b) s r ts us e (simple_short b s r h)
  few_events left Key has (list ns) s r ts us (inl (n, s1, vs, head, e, h)) =
      let less = head_short 4 n s s1 head in
      let more = few_counted left Key has n ns s1 r vs us h in
      let count = told_done left (start_list (Some n)) s1 ts vs e in omega arith
  few_events left Key has (list ns) s r ts us (inr (s1, vs, head, e, h)) =
      let less = byte_short 0x9F s s1 head in
      let more = few_entries left Key has ns s1 r vs us h in
      let count = told_done left (start_list None) s1 ts vs e in omega arith
  few_events left Key has (object ms) s r ts us (inl (n, s1, vs, head, e, h)) =
      let less = head_short 5 n s s1 head in
      let more = few_counted_pairs left Key has n ms s1 r vs us h in
      let count = told_done left (start_object (Some n)) s1 ts vs e in omega arith
  few_events left Key has (object ms) s r ts us (inr (s1, vs, head, e, h)) =
      let less = byte_short 0xBF s s1 head in
      let more = few_pairs left Key has ms s1 r vs us h in
      let count = told_done left (start_object None) s1 ts vs e in omega arith

  few_counted : (left : ℕ) (Key : KeyForm) → HasByte Key → (n : ℕ) (ns : Nodes) (s r : List ℕ) (ts us : List TimedEvent)
      → CountedEntriesTimed Key n ns s r ts us → done left ts + 2 * (length r - left) ≤ done left us + (length s - left) +
      (length s + 1 - left)
  few_counted left Key has n no_nodes s r ts us (none, same, e) = let count = told_done left end_list r ts us e
      in let all = ap length same in omega arith
  few_counted left Key has n (node x xs) s r ts us (m, is, s1, vs, h, more) =
      let less = item_short Key has x s s1 ts vs h in
      let first = few_events left Key has x s s1 ts vs h in
      let others = few_counted left Key has m xs s1 r vs us more in omega arith

  few_entries : (left : ℕ) (Key : KeyForm) → HasByte Key → (ns : Nodes) (s r : List ℕ) (ts us : List TimedEvent)
      → EntriesToBreakTimed Key ns s r ts us
      → done left ts + 2 * (length r - left) ≤ done left us + 2 * (length s - left)
  few_entries left Key has no_nodes s r ts us (h, e) = one_event left end_list s r ts us e (byte_short 0xFF s r h)
  few_entries left Key has (node x xs) s r ts us (s1, vs, h, more) =
      let first = few_events left Key has x s s1 ts vs h in let others = few_entries left Key has xs s1 r vs us more in omega arith

  few_counted_pairs : (left : ℕ) (Key : KeyForm) → HasByte Key → (n : ℕ) (ms : Members) (s r : List ℕ) (ts us : List TimedEvent)
      → CountedPairsTimed Key n ms s r ts us → done left ts + 2 * (length r - left) ≤ done left us + (length s - left) +
      (length s + 1 - left)
  few_counted_pairs left Key has n no_members s r ts us (none, same, e) = let count = told_done left end_object r ts us e
      in let all = ap length same in omega arith
  few_counted_pairs left Key has n (member k x ms) s r ts us (m, is, s1, s2, vs, ws, key, e, h, more) =
      let count = told_done left (key_event k) s1 ts vs e in
      let less = has k s s1 key in
      let shorter = item_short Key has x s1 s2 vs ws h in
      let first = few_events left Key has x s1 s2 vs ws h in
      let others = few_counted_pairs left Key has m ms s2 r ws us more in omega arith

  few_pairs : (left : ℕ) (Key : KeyForm) → HasByte Key → (ms : Members) (s r : List ℕ) (ts us : List TimedEvent)
      → PairsToBreakTimed Key ms s r ts us
      → done left ts + 2 * (length r - left) ≤ done left us + 2 * (length s - left)
  few_pairs left Key has no_members s r ts us (h, e) = one_event left end_object s r ts us e (byte_short 0xFF s r h)
  few_pairs left Key has (member k x ms) s r ts us (s1, s2, vs, ws, key, e, h, more) =
      let count = told_done left (key_event k) s1 ts vs e in
      let less = has k s s1 key in
      let first = few_events left Key has x s1 s2 vs ws h in
      let others = few_pairs left Key has ms s2 r ws us more in omega arith

pub few_of_item : (left : ℕ) (n : Node) (bs : List ℕ) (ts : List TimedEvent) → cbor_timing n bs ts
    → done left ts ≤ 2 * (length bs - left)
few_of_item left n bs ts h = let few = few_events left TextString text_has_byte n bs [] ts [] h in omega arith

pub has_few_events : HasFewEvents cbor_timing
has_few_events bs es (more, n, ts, timed, room, is) =
    let few = few_of_item (length more) n (bs ++ more) ts timed in
    let all = length-append bs more in
    let count = ap length is in omega arith
