-- Items have a byte at least, and what is behind them is shorter.
use Rattle.std.proofs.Common.{◌≤◌, ◌<◌, ◌*◌, ◌+◌, ◌%◌, ℕ, ℤ, suc, zero, inl, inr, true, false, List, [], ◌∷◌, ap, ◌∙◌, arith, length}
use Rattle.std.proofs.Common.{length-append, IsUtf8}
use Rattle.sm_tree.specs.Json.{AreBytes}
use Rattle.sm_tree.specs.Node.{Node, Nodes, Members, null, bool, int, number, text, bytes, tag, opaque, list, object, no_nodes, node}
use Rattle.sm_tree.specs.Node.{no_members, member}
use Rattle.sm_tree.specs.Timing.{TimedEvent}
use Rattle.sm_cbor.specs.Heads.{Byte, Number, Argument, Head}
use Rattle.sm_cbor.specs.CborItem.{KeyForm, TextString, String, Definite, Chunks, Integer, SimpleOrFloat}
use Rattle.sm_cbor.specs.Timing.{ItemTimed, CountedEntriesTimed, EntriesToBreakTimed, CountedPairsTimed, PairsToBreakTimed}

-- a head, a string and a number have a byte at least
pub number_short : (k v n : ℕ) (s r : List ℕ) → Number k v n s r → length r ≤ length s
number_short zero v n s r h = let e = ap length h.1 in omega arith
number_short (suc k) v n [] r h = absurd h
number_short (suc k) v n (b ∷ s) r h = let less = number_short k (v * 256 + b) n s r h.1 in omega arith

argument_short : (info n : ℕ) (s r : List ℕ) → Argument info n s r → length r ≤ length s
argument_short info n s r (inl (small, h)) = number_short 0 info n s r h
argument_short info n s r (inr (k, wide, h)) = number_short k 0 n s r h

pub head_short : (major n : ℕ) (s r : List ℕ) → Head major n s r → length r < length s
head_short major n [] r h = absurd h
head_short major n (c ∷ s) r h = let less = argument_short (c % 32) n s r h.1 in omega arith

pub byte_short : (b : ℕ) (s r : List ℕ) → Byte b s r → length r < length s
byte_short b [] r h = absurd h
byte_short b (c ∷ s) r h = let e = ap length h.1 in omega arith

definite_short : (major : ℕ) (P : List ℕ → Type 0) (t s r : List ℕ) → Definite major P t s r → length r < length s
definite_short major P t s r (s1, head, e, is) =
    let less = head_short major (length t) s s1 head in let more = ap length e ∙ length-append t r in omega arith

pub chunks_short : (major : ℕ) (P : List ℕ → Type 0) (ts : List (List ℕ)) (s r : List ℕ) → Chunks major P ts s r → length r < length s
chunks_short major P [] s r h = byte_short 0xFF s r h
chunks_short major P (t ∷ ts) s r (s1, first, more) =
    let a = definite_short major P t s s1 first in let b = chunks_short major P ts s1 r more in omega arith

pub string_short : (major : ℕ) (P : List ℕ → Type 0) (t s r : List ℕ) → String major P t s r → length r < length s
string_short major P t s r (inl h) = definite_short major P t s r h
string_short major P t s r (inr (s1, ts, first, chunks, e)) =
    let a = byte_short (major * 32 + 31) s s1 first in let b = chunks_short major P ts s1 r chunks in omega arith

pub integer_short : (z : ℤ) (s r : List ℕ) → Integer z s r → length r < length s
integer_short z s r (n, inl h) = head_short 0 n s r h.0
integer_short z s r (n, inr h) = head_short 1 n s r h.0

pub simple_short : (b : ℕ) (s r : List ℕ) → SimpleOrFloat b s r → length r < length s
simple_short b [] r h = absurd h
simple_short b (c ∷ s) r (e, kind, n, h, is) = let less = argument_short (c % 32) n s r h in omega arith

-- an item has a byte at least, where each key has
abbrev pub HasByte : KeyForm → Type 0
HasByte Key = (k s r : List ℕ) → Key k s r → length r < length s

pub text_has_byte : HasByte TextString
text_has_byte k s r h = string_short 3 IsUtf8 k s r h

mutual
  pub item_short : (Key : KeyForm) → HasByte Key → (n : Node) (s r : List ℕ) (ts us : List TimedEvent) → ItemTimed Key n s r ts us
      → length r < length s
  item_short Key has null s r ts us (inl h, e) = byte_short 0xF6 s r h
  item_short Key has null s r ts us (inr h, e) = byte_short 0xF7 s r h
  item_short Key has (bool false) s r ts us (h, e) = byte_short 0xF4 s r h
  item_short Key has (bool true) s r ts us (h, e) = byte_short 0xF5 s r h
  item_short Key has (int z) s r ts us (h, e) = integer_short z s r h.1
  item_short Key has (number t) s r ts us ((z, out, is, h), e) = integer_short z s r h
  item_short Key has (text t) s r ts us (h, e) = string_short 3 IsUtf8 t s r h
  item_short Key has (bytes t) s r ts us (h, e) = string_short 2 AreBytes t s r h
  item_short Key has (tag k n) s r ts us (s1, vs, head, e, h) =
      let less = head_short 6 k s s1 head in let more = item_short Key has n s1 r vs us h in omega arith
  item_short Key has (opaque b) s r ts us (h, e) = simple_short b s r h
  item_short Key has (list ns) s r ts us (inl (n, s1, vs, head, e, h)) =
      let less = head_short 4 n s s1 head in let more = counted_short Key has n ns s1 r vs us h in omega arith
  item_short Key has (list ns) s r ts us (inr (s1, vs, head, e, h)) =
      let less = byte_short 0x9F s s1 head in let more = entries_short Key has ns s1 r vs us h in omega arith
  item_short Key has (object ms) s r ts us (inl (n, s1, vs, head, e, h)) =
      let less = head_short 5 n s s1 head in let more = counted_pairs_short Key has n ms s1 r vs us h in omega arith
  item_short Key has (object ms) s r ts us (inr (s1, vs, head, e, h)) =
      let less = byte_short 0xBF s s1 head in let more = pairs_short Key has ms s1 r vs us h in omega arith

  pub counted_short : (Key : KeyForm) → HasByte Key → (n : ℕ) (ns : Nodes) (s r : List ℕ) (ts us : List TimedEvent)
      → CountedEntriesTimed Key n ns s r ts us → length r ≤ length s
  counted_short Key has n no_nodes s r ts us (none, same, e) = let all = ap length same in omega arith
  counted_short Key has n (node x xs) s r ts us (m, is, s1, vs, h, more) =
      let first = item_short Key has x s s1 ts vs h in let others = counted_short Key has m xs s1 r vs us more in omega arith

  pub entries_short : (Key : KeyForm) → HasByte Key → (ns : Nodes) (s r : List ℕ) (ts us : List TimedEvent)
      → EntriesToBreakTimed Key ns s r ts us → length r < length s
  entries_short Key has no_nodes s r ts us (h, e) = byte_short 0xFF s r h
  entries_short Key has (node x xs) s r ts us (s1, vs, h, more) =
      let first = item_short Key has x s s1 ts vs h in let others = entries_short Key has xs s1 r vs us more in omega arith

  pub counted_pairs_short : (Key : KeyForm) → HasByte Key → (n : ℕ) (ms : Members) (s r : List ℕ) (ts us : List TimedEvent)
      → CountedPairsTimed Key n ms s r ts us → length r ≤ length s
  counted_pairs_short Key has n no_members s r ts us (none, same, e) = let all = ap length same in omega arith
  counted_pairs_short Key has n (member k x ms) s r ts us (m, is, s1, s2, vs, ws, key, e, h, more) =
      let less = has k s s1 key in
      let first = item_short Key has x s1 s2 vs ws h in
      let others = counted_pairs_short Key has m ms s2 r ws us more in omega arith

  pub pairs_short : (Key : KeyForm) → HasByte Key → (ms : Members) (s r : List ℕ) (ts us : List TimedEvent)
      → PairsToBreakTimed Key ms s r ts us → length r < length s
  pairs_short Key has no_members s r ts us (h, e) = byte_short 0xFF s r h
  pairs_short Key has (member k x ms) s r ts us (s1, s2, vs, ws, key, e, h, more) =
      let less = has k s s1 key in
      let first = item_short Key has x s1 s2 vs ws h in
      let others = pairs_short Key has ms s2 r ws us more in omega arith
