-- How many bytes the parts of a text take: each event of a text has a byte of its own. So a text has no more events than bytes, and
-- bytes that begin one complete no more events than they are.
use Rattle.std.proofs.Common.{◌≡◌, ℕ, zero, suc, ◌+◌, ◌-◌, ◌≤◌, ◌<◌, inl, inr, true, false, cond, List, [], ◌∷◌, ◌++◌, sym, ap, subst}
use Rattle.std.proofs.Common.{arith, length, length-append, None}
use Rattle.std.proofs.lemmas.Bool.{cases_lt, le-leb, lt-leb}
use Rattle.std.specs.Char.{encode_utf8}
use Rattle.sm_tree.specs.Node.{Node, Nodes, Members, null, bool, int, number, text, bytes, tag, opaque, list, object, no_nodes, node}
use Rattle.sm_tree.specs.Node.{no_members, member}
use Rattle.sm_tree.specs.Events.{NodeEvent, null_event, bool_event, int_event, number_event, text_event, start_list, end_list}
use Rattle.sm_tree.specs.Events.{start_object, key_event, end_object}
use Rattle.sm_tree.specs.Timing.{TimedEvent, by_byte, complete_with}
use Rattle.sm_tree.specs.TimingLaws.{HasFewEvents}
use Rattle.sm_tree.specs.Numbers.{IsNumber, NumberText}
use Rattle.sm_json.specs.Strings.{Whitespace, HexDigits, CodeUnit, LowHalf, Escape, Character, Characters, SpellsText}
use Rattle.sm_json.specs.JsonText.{SpellsNumber, Separator}
use Rattle.sm_json.specs.Timing.{by_next, ValueTimed, EntriesTimed, MoreEntriesTimed, PairsTimed, MorePairsTimed, json_timing}
use Rattle.sm_json.proofs.Starts.{number_start}

pub white_shorter : (s r : List ℕ) → Whitespace s r → length r ≤ length s
white_shorter [] r e = omega (arith, ap length e)
white_shorter (c ∷ s) r (inl e) = omega (arith, ap length e)
white_shorter (c ∷ s) r (inr h) = let more = white_shorter s r h.1 in omega arith

pub separator_shorter : (c : ℕ) (s r : List ℕ) → Separator c s r → length r < length s
separator_shorter c s r (s1, k, k1) =
    let first = white_shorter s (c ∷ s1) k in
    let rest = white_shorter s1 r k1 in omega arith

pub digits_shorter : (k n v : ℕ) (s r : List ℕ) → HexDigits k n v s r → length r ≤ length s
digits_shorter zero n v s r h = omega (arith, ap length h.1)
digits_shorter (suc k) n v [] r h = absurd h
digits_shorter (suc k) n v (c ∷ s) r (d, e, h) = let more = digits_shorter k _ v s r h in omega arith

pub unit_shorter : (v : ℕ) (s r : List ℕ) → CodeUnit v s r → length r < length s
unit_shorter v s r (s1, e, h) = let more = digits_shorter 4 0 v s1 r h in omega (arith, ap length e)

pub low_shorter : (high c : ℕ) (s r : List ℕ) → LowHalf high c s r → length r < length s
low_shorter high c s r (low, s1, e, h, is, j) = let more = unit_shorter low s1 r h in omega (arith, ap length e)

pub escape_shorter : (c : ℕ) (s r : List ℕ) → Escape c s r → length r < length s
escape_shorter c s r (inl (x, e, f)) = omega (arith, ap length e)
escape_shorter c s r (inr (inl h)) = unit_shorter c s r h
escape_shorter c s r (inr (inr (high, s1, h, is, low))) =
    let first = unit_shorter high s s1 h in
    let rest = low_shorter high c s1 r low in omega arith

character_shorter : (c : ℕ) (s r : List ℕ) → Character c s r → length r ≤ length s
character_shorter c s r (scalar, inl (plain, e)) = omega (arith, ap length e, length-append (encode_utf8 c) r)
character_shorter c s r (scalar, inr (s1, e, h)) = let more = escape_shorter c s1 r h in omega (arith, ap length e)

pub characters_shorter : (cs s r : List ℕ) → Characters cs s r → length r < length s
characters_shorter [] s r e = omega (arith, ap length e)
characters_shorter (c ∷ cs) s r (s1, h, rest) =
    let first = character_shorter c s s1 h in
    let more = characters_shorter cs s1 r rest in omega arith

pub text_shorter : (t s r : List ℕ) → SpellsText t s r → length r < length s
text_shorter t s r (cs, s1, e, o, h) = let more = characters_shorter cs s1 r h in omega (arith, ap length o)

pub number_shorter : (n : Node) (s r : List ℕ) → ((t : List ℕ) → NumberText n t → IsNumber t) → SpellsNumber n s r → length r < length s
number_shorter n s r numeral (t, e, x) =
    let (c, u, is, starts) = number_start t (numeral t x) in omega (arith, ap length e, length-append t r, ap length is)

-- a way to count events and the bytes that stand behind a place: an event that is complete before a byte takes that byte
pub record Counts : Type 0 where
  pub events : List TimedEvent → ℕ
  pub behind : ℕ → ℕ
  pub spoken : (e : NodeEvent) (k : ℕ) (us : List TimedEvent) → events (by_byte e k ∷ us) + behind k ≤ events us + behind (suc k)
  pub next : (e : NodeEvent) (r : List ℕ) (us : List TimedEvent)
      → events (by_next e r ∷ us) + behind (length r) ≤ events us + behind (suc (length r))
  pub rises : (j k : ℕ) → j ≤ k → behind j ≤ behind k

module _ (C : Counts) where
  -- an event whose last byte stands between s and r
  one_spoken : (e : NodeEvent) (s r : List ℕ) (ts us : List TimedEvent) → length r < length s → ts ≡ by_byte e (length r) ∷ us
      → C.events ts + C.behind (length r) ≤ C.events us + C.behind (length s)
  one_spoken e s r ts us less is =
      let one = C.spoken e (length r) us in
      let more = C.rises (suc (length r)) (length s) (omega arith) in
      subst (λ x. C.events x + C.behind (length r) ≤ C.events us + C.behind (length s)) (sym is) (omega arith)

  one_next : (e : NodeEvent) (s r : List ℕ) (ts us : List TimedEvent) → length r < length s → ts ≡ by_next e r ∷ us
      → C.events ts + C.behind (length r) ≤ C.events us + C.behind (length s)
  one_next e s r ts us less is =
      let one = C.next e r us in
      let more = C.rises (suc (length r)) (length s) (omega arith) in
      subst (λ x. C.events x + C.behind (length r) ≤ C.events us + C.behind (length s)) (sym is) (omega arith)

  -- the events of a part are no more than its bytes
  mutual
    value_count : (n : Node) (s r : List ℕ) (ts us : List TimedEvent) → ValueTimed n s r ts us
        → C.events ts + C.behind (length r) ≤ C.events us + C.behind (length s)
    value_count null s r ts us h = one_spoken null_event s r ts us (omega (arith, ap length h.0)) h.1
    value_count (bool true) s r ts us h = one_spoken (bool_event true) s r ts us (omega (arith, ap length h.0)) h.1
    value_count (bool false) s r ts us h = one_spoken (bool_event false) s r ts us (omega (arith, ap length h.0)) h.1
    value_count (int z) s r ts us h = one_next (int_event z) s r ts us (number_shorter (int z) s r (λ t x. x.0) h.0) h.1
    value_count (number u) s r ts us h = one_next (number_event u) s r ts us (number_shorter (number u) s r (λ t x. x.0) h.0) h.1
    value_count (text t) s r ts us h = one_spoken (text_event t) s r ts us (text_shorter t s r h.0) h.1
    value_count (bytes t) s r ts us h = absurd h
    value_count (tag k n) s r ts us h = absurd h
    value_count (opaque b) s r ts us h = absurd h
    value_count (list ns) s r ts us (s1, vs, e, e1, m) =
        let one = one_spoken (start_list None) s s1 ts vs (omega (arith, ap length e)) e1 in
        let inner = entries_count ns s1 r vs us m in omega arith
    value_count (object ms) s r ts us (s1, vs, e, e1, m) =
        let one = one_spoken (start_object None) s s1 ts vs (omega (arith, ap length e)) e1 in
        let inner = pairs_count ms s1 r vs us m in omega arith

    entries_count : (ns : Nodes) (s r : List ℕ) (ts us : List TimedEvent) → EntriesTimed ns s r ts us
        → C.events ts + C.behind (length r) ≤ C.events us + C.behind (length s)
    entries_count no_nodes s r ts us (k, e) =
        let less = white_shorter s (93 ∷ r) k in one_spoken end_list s r ts us (omega arith) e
    entries_count (node n ns) s r ts us (s1, s2, vs, k, v, m) =
        let less = C.rises (length s1) (length s) (white_shorter s s1 k) in
        let first = value_count n s1 s2 ts vs v in
        let more = more_entries_count ns s2 r vs us m in omega arith

    more_entries_count : (ns : Nodes) (s r : List ℕ) (ts us : List TimedEvent) → MoreEntriesTimed ns s r ts us
        → C.events ts + C.behind (length r) ≤ C.events us + C.behind (length s)
    more_entries_count no_nodes s r ts us (k, e) =
        let less = white_shorter s (93 ∷ r) k in one_spoken end_list s r ts us (omega arith) e
    more_entries_count (node n ns) s r ts us (s1, s2, vs, k, v, m) =
        let parted = separator_shorter 44 s s1 k in
        let less = C.rises (length s1) (length s) (omega arith) in
        let first = value_count n s1 s2 ts vs v in
        let more = more_entries_count ns s2 r vs us m in omega arith

    pairs_count : (ms : Members) (s r : List ℕ) (ts us : List TimedEvent) → PairsTimed ms s r ts us
        → C.events ts + C.behind (length r) ≤ C.events us + C.behind (length s)
    pairs_count no_members s r ts us (k, e) =
        let less = white_shorter s (125 ∷ r) k in one_spoken end_object s r ts us (omega arith) e
    pairs_count (member k n ms) s r ts us (s1, s2, s3, s4, vs, ws, white, name, e, sep, v, m) =
        let blank = white_shorter s s1 white in
        let named = one_spoken (key_event k) s1 s2 ts vs (text_shorter k s1 s2 name) e in
        let parted = separator_shorter 58 s2 s3 sep in
        let first = value_count n s3 s4 vs ws v in
        let more = more_pairs_count ms s4 r ws us m in
        let less = C.rises (length s1) (length s) blank in
        let less1 = C.rises (length s3) (length s2) (omega arith) in omega arith

    more_pairs_count : (ms : Members) (s r : List ℕ) (ts us : List TimedEvent) → MorePairsTimed ms s r ts us
        → C.events ts + C.behind (length r) ≤ C.events us + C.behind (length s)
    more_pairs_count no_members s r ts us (k, e) =
        let less = white_shorter s (125 ∷ r) k in one_spoken end_object s r ts us (omega arith) e
    more_pairs_count (member k n ms) s r ts us (s1, s2, s3, s4, vs, ws, white, name, e, sep, v, m) =
        let blank = separator_shorter 44 s s1 white in
        let named = one_spoken (key_event k) s1 s2 ts vs (text_shorter k s1 s2 name) e in
        let parted = separator_shorter 58 s2 s3 sep in
        let first = value_count n s3 s4 vs ws v in
        let more = more_pairs_count ms s4 r ws us m in
        let less = C.rises (length s1) (length s) (omega arith) in
        let less1 = C.rises (length s3) (length s2) (omega arith) in omega arith

  -- those of a text
  text_count : (n : Node) (bs : List ℕ) (ts : List TimedEvent) → json_timing n bs ts
      → C.events ts ≤ C.events [] + C.behind (length bs)
  text_count n bs ts (s, r, k, v, k1) =
      let less = C.rises (length s) (length bs) (white_shorter bs s k) in
      let first = value_count n s r ts [] v in omega arith

-- all events of a text
next_length : (e : NodeEvent) (r : List ℕ) (us : List TimedEvent) → length (by_next e r ∷ us) + length r ≤ length us + suc (length r)
next_length e [] us = omega arith
next_length e (c ∷ r) us = omega arith

abbrev all_events : Counts
all_events = record {
  events = λ ts. length ts;
  behind = λ k. k;
  spoken = λ e k us. omega arith;
  next = next_length;
  rises = λ j k less. less;
}

pub few_events : (n : Node) (bs : List ℕ) (ts : List TimedEvent) → json_timing n bs ts → length ts ≤ length bs
few_events n bs ts h = let few = text_count all_events n bs ts h in omega arith

-- those that are complete where so many of the text's bytes are still to come
abbrev done : ℕ → List TimedEvent → ℕ
done left ts = length (complete_with left ts)

byte_done : (left : ℕ) (e : NodeEvent) (k : ℕ) (us : List TimedEvent)
    → done left (by_byte e k ∷ us) + (k - left) ≤ done left us + (suc k - left)
byte_done left e k us = elim (cases_lt k left) [
  | inl late ↦ let is = ap (λ b. length (cond b (e ∷ complete_with left us) (complete_with left us))) (lt-leb left k late) in omega arith
  | inr soon ↦ let is = ap (λ b. length (cond b (e ∷ complete_with left us) (complete_with left us))) (le-leb left k soon) in omega arith
]

next_done : (left : ℕ) (e : NodeEvent) (r : List ℕ) (us : List TimedEvent)
    → done left (by_next e r ∷ us) + (length r - left) ≤ done left us + (suc (length r) - left)
next_done left e [] us = omega arith
next_done left e (c ∷ r) us = let one = byte_done left e (length r) us in omega arith

abbrev complete_events : ℕ → Counts
complete_events left = record {
  events = λ ts. done left ts;
  behind = λ k. k - left;
  spoken = byte_done left;
  next = next_done left;
  rises = λ j k less. omega arith;
}

pub has_few_events : HasFewEvents json_timing
has_few_events bs es (more, n, ts, timed, room, is) =
    let few = text_count (complete_events (length more)) n (bs ++ more) ts timed in
    let all = length-append bs more in
    let count = ap length is in omega arith
