-- What the initial byte of an item leaves to come: the laws of `CborLeads` and `CborStops` where an item must come.
use Rattle.std.proofs.Common.{◌≡◌, ℕ, ℤ, pos, negsuc, ◌+◌, ◌%◌, ◌^◌, ◌≤◌, ◌<◌, ◌⊎◌, inl, inr, Bool, true, false, cond, List, [], ◌∷◌}
use Rattle.std.proofs.Common.{None, refl, sym, ap, subst, ◌∙◌, arith, length, FitsSigned, IsUtf8}
use Rattle.std.specs.Int.{w64}
use Rattle.std.specs.Fmt.{signed_decimal}
use Rattle.std.specs.List.{concat}
use Rattle.std.proofs.lemmas.Bool.{cases_lt, lt-ltb, le-ltb}
use Rattle.sm_tree.specs.Node.{Node, null, bool, int, number, text, bytes, tag, opaque, list, object}
use Rattle.sm_tree.specs.Json.{AreBytes}
use Rattle.sm_tree.specs.Levels.{levels}
use Rattle.sm_tree.specs.Events.{NodeEvent, events, null_event, bool_event, int_event, number_event, text_event, bytes_event, start_list}
use Rattle.sm_tree.specs.Events.{start_object}
use Rattle.sm_tree.specs.Streams.{unnumbered}
use Rattle.sm_tree.specs.Timing.{TimedEvent, by_byte}
use Rattle.sm_bytes.proofs.Characters.{utf8_runs, rest_utf8}
use Rattle.sm_cbor.specs.Heads.{Argument}
use Rattle.sm_cbor.specs.CborItem.{Item as ItemBytes, Integer, Chunks as ChunkBytes, IsOpaque}
use Rattle.sm_cbor.specs.Timing.{CompleteAt, ItemTimed}
use Rattle.sm_cbor.specs.steps.Marks.{Keys, key_of}
use Rattle.sm_cbor.specs.steps.Reading.{SubjectIs, HeadIs, integer_node, integer_event}
use Rattle.sm_cbor.specs.steps.Rest.{CborState, CborEnds, ItemComes, ChunksCome, ArgumentEnded, ArgumentComes, CborLeads, CborStops}
use Rattle.sm_cbor.specs.declared.place.StringKind.{StringKind}
use Rattle.sm_cbor.specs.declared.place.StringKind.TheVariants.{Bytes, Text, Key as KeyText}
use Rattle.sm_cbor.specs.declared.place.Span.TheVariants.{Whole, Chunk}
use Rattle.sm_cbor.specs.declared.place.Subject.{Subject}
use Rattle.sm_cbor.specs.declared.place.Subject.TheVariants.{Unsigned, Negative, String as StringHead, List as ListHead, Map as MapHead}
use Rattle.sm_cbor.specs.declared.place.Subject.TheVariants.{Tag as TagHead, Opaque}
use Rattle.sm_cbor.specs.declared.place.Level.{Level}
use Rattle.sm_cbor.specs.declared.place.Level.TheVariants.{ListToBreak as AListToBreak, MapToBreak as AMapToBreak}
use Rattle.sm_cbor.specs.declared.place.CborPlace.{CborPlace}
use Rattle.sm_cbor.specs.declared.place.CborPlace.TheVariants.{Item, After, Argument as InArgument, Chunks}
use Rattle.sm_cbor.specs.declared.head.Head.{Head}
use Rattle.sm_cbor.specs.declared.head.Head.TheVariants.{Argument as ArgumentHead, Chunks as ChunksHead, List as EntriesHead}
use Rattle.sm_cbor.specs.declared.head.Head.TheVariants.{Map as PairsHead, Null as NullHead, Bool as BoolHead, NoItem}
use Rattle.sm_cbor.proofs.Arguments.{argument_starts, argument_back, one_head}
use Rattle.sm_cbor.proofs.Readings.{leads_silent, leads_one}

abbrev pub at : CborPlace → List ℕ → List Level → CborState
at p t ls = record { place = p; held = t; levels = ls }

-- integers of 64 bits, and the others
pub fits_pos : (n : ℕ) → n < 2 ^ 63 → FitsSigned w64 (pos n)
fits_pos n small = omega arith

pub fits_neg : (n : ℕ) → n < 2 ^ 63 → FitsSigned w64 (negsuc n)
fits_neg n small = omega arith

pub small_pos : (n : ℕ) → FitsSigned w64 (pos n) → n < 2 ^ 63
small_pos n fits = omega arith

pub small_neg : (n : ℕ) → FitsSigned w64 (negsuc n) → n < 2 ^ 63
small_neg n fits = omega arith

node_small : (n : ℕ) (z : ℤ) → n < 2 ^ 63 → integer_node n z ≡ int z
node_small n z small = ap (λ b. cond b (int z) (number (signed_decimal z))) (lt-ltb n (2 ^ 63) small)

node_large : (n : ℕ) (z : ℤ) → 2 ^ 63 ≤ n → integer_node n z ≡ number (signed_decimal z)
node_large n z large = ap (λ b. cond b (int z) (number (signed_decimal z))) (le-ltb n (2 ^ 63) large)

-- the tree of an integer, from its bytes and back
pub integer_item : (w : Keys) (n : ℕ) (z : ℤ) (s r : List ℕ) → (n < 2 ^ 63 → FitsSigned w64 z) → (FitsSigned w64 z → n < 2 ^ 63)
    → Integer z s r → ItemBytes (key_of w) (integer_node n z) s r
integer_item w n z s r fits small h = elim (cases_lt n (2 ^ 63)) [
  | inl below ↦ subst (λ x. ItemBytes (key_of w) x s r) (sym (node_small n z below)) (fits below, h)
  | inr above ↦ subst (λ x. ItemBytes (key_of w) x s r) (sym (node_large n z above)) (z, (λ f. let less = small f in omega arith), refl, h)
]

-- and its event
event_small : (n : ℕ) (z : ℤ) → n < 2 ^ 63 → integer_event n z ≡ int_event z
event_small n z small = ap (λ b. cond b (int_event z) (number_event (signed_decimal z))) (lt-ltb n (2 ^ 63) small)

event_large : (n : ℕ) (z : ℤ) → 2 ^ 63 ≤ n → integer_event n z ≡ number_event (signed_decimal z)
event_large n z large = ap (λ b. cond b (int_event z) (number_event (signed_decimal z))) (le-ltb n (2 ^ 63) large)

pub integer_untold : (n : ℕ) (z : ℤ) → events (integer_node n z) [] ≡ unnumbered (integer_event n z ∷ [])
integer_untold n z = elim (cases_lt n (2 ^ 63)) [
  | inl below ↦ ap (λ x. events x []) (node_small n z below) ∙ sym (ap (λ x. unnumbered (x ∷ [])) (event_small n z below))
  | inr above ↦ ap (λ x. events x []) (node_large n z above) ∙ sym (ap (λ x. unnumbered (x ∷ [])) (event_large n z above))
]

integer_timed : (w : Keys) (n : ℕ) (z : ℤ) (s r : List ℕ) (es fs : List TimedEvent) → (n < 2 ^ 63 → FitsSigned w64 z)
    → (FitsSigned w64 z → n < 2 ^ 63) → Integer z s r → CompleteAt (integer_event n z) r es fs
    → ItemTimed (key_of w) (integer_node n z) s r es fs
integer_timed w n z s r es fs fits small h e = elim (cases_lt n (2 ^ 63)) [
  | inl below ↦ subst (λ x. ItemTimed (key_of w) x s r es fs) (sym (node_small n z below))
      ((fits below, h), e ∙ ap (λ x. by_byte x (length r) ∷ fs) (event_small n z below))
  | inr above ↦ subst (λ x. ItemTimed (key_of w) x s r es fs) (sym (node_large n z above))
      ((z, (λ f. let less = small f in omega arith), refl, h), e ∙ ap (λ x. by_byte x (length r) ∷ fs) (event_large n z above))
]

pub integer_levels : (n : ℕ) (z : ℤ) → levels (integer_node n z) ≡ 0
integer_levels n z = elim (cases_lt n (2 ^ 63))
    [ inl below ↦ ap levels (node_small n z below) | inr above ↦ ap levels (node_large n z above) ]

-- what may come behind an initial byte that says this
abbrev pub Leaf : Keys → ℕ → NodeEvent → List Level → List ℕ → List TimedEvent → Type 0
Leaf w limit e ls s es = (fs : List TimedEvent) × CborEnds w limit ls s fs × CompleteAt e s es fs

abbrev pub HeadComes : Keys → ℕ → Head → List ℕ → List Level → List ℕ → List TimedEvent → Type 0
HeadComes w limit (ArgumentHead j k v) t ls s es = ArgumentComes w limit j k v t ls s es
HeadComes w limit (ChunksHead kind) t ls s es = ChunksCome w limit kind [] ls s es
HeadComes w limit EntriesHead t ls s es = Leaf w limit (start_list None) (AListToBreak ∷ ls) s es
HeadComes w limit PairsHead t ls s es = Leaf w limit (start_object None) (AMapToBreak ∷ ls) s es
HeadComes w limit NullHead t ls s es = Leaf w limit null_event ls s es
HeadComes w limit (BoolHead b) t ls s es = Leaf w limit (bool_event b) ls s es
HeadComes w limit NoItem t ls s es = ⊥

abbrev pub InitialByte : Keys → ℕ → ℕ → List ℕ → List Level → List ℕ → List TimedEvent → Type 0
InitialByte w limit c t ls s es = (h : Head) × HeadIs c h × HeadComes w limit h t ls s es

leaf_at : (w : Keys) (limit : ℕ) (e : NodeEvent) (ls : List Level) (s r : List ℕ) (es fs : List TimedEvent) → s ≡ r
    → CborEnds w limit ls r fs → CompleteAt e r es fs → Leaf w limit e ls s es
leaf_at w limit e ls s r es fs same en is =
    (fs, subst (λ x. CborEnds w limit ls x fs) (sym same) en, is ∙ ap (λ x. by_byte e (length x) ∷ fs) (sym same))

with_argument : (w : Keys) (limit c : ℕ) (t : List ℕ) (ls : List Level) (s : List ℕ) (es : List TimedEvent) (j : Subject) (n : ℕ)
    (r : List ℕ)
    → SubjectIs c j → Argument (c % 32) n s r → ArgumentEnded w limit j n t ls r es → InitialByte w limit c t ls s es
with_argument w limit c t ls s es j n r is a h =
    let (k, v, starts, more) = argument_starts (c % 32) n s r a in (ArgumentHead j k v, (is, starts), (n, r, more, h))

opaque_range : (info n : ℕ) → IsOpaque info n → (info < 20) ⊎ (24 ≤ info)
opaque_range info n (inl h) = inl h
opaque_range info n (inr (inl h)) = inr (omega arith)
opaque_range info n (inr (inr h)) = inr (omega arith)

initial_onward : (w : Keys) (limit c : ℕ) (t : List ℕ) (ls : List Level) (s r : List ℕ) (es fs : List TimedEvent) (n : Node)
    → ItemTimed (key_of w) n (c ∷ s) r es fs → levels n + length ls ≤ limit → CborEnds w limit ls r fs → InitialByte w limit c t ls s es
initial_onward w limit c t ls s r es fs null (inl h, e) room en = (NullHead, inl h.0, leaf_at w limit null_event ls s r es fs h.1 en e)
initial_onward w limit c t ls s r es fs null (inr h, e) room en = (NullHead, inr h.0, leaf_at w limit null_event ls s r es fs h.1 en e)
initial_onward w limit c t ls s r es fs (bool false) (h, e) room en =
    (BoolHead false, h.0, leaf_at w limit (bool_event false) ls s r es fs h.1 en e)
initial_onward w limit c t ls s r es fs (bool true) (h, e) room en =
    (BoolHead true, h.0, leaf_at w limit (bool_event true) ls s r es fs h.1 en e)
initial_onward w limit c t ls s r es fs (int z) ((fits, (n, inl (head, is))), e) room en =
    let same : int_event z ≡ integer_event n (pos n) = ap int_event is
    ∙ sym (event_small n (pos n) (small_pos n (subst (FitsSigned w64) is fits))) in
    with_argument w limit c t ls s es Unsigned n r head.0 head.1 (fs, en, e ∙ ap (λ x. by_byte x (length r) ∷ fs) same)
initial_onward w limit c t ls s r es fs (int z) ((fits, (n, inr (head, is))), e) room en =
    let same : int_event z ≡ integer_event n (negsuc n) = ap int_event is
    ∙ sym (event_small n (negsuc n) (small_neg n (subst (FitsSigned w64) is fits))) in
    with_argument w limit c t ls s es Negative n r head.0 head.1 (fs, en, e ∙ ap (λ x. by_byte x (length r) ∷ fs) same)
initial_onward w limit c t ls s r es fs (number u) ((z, out, is_text, (n, inl (head, is))), e) room en =
    let large : 2 ^ 63 ≤ n = elim (cases_lt n (2 ^ 63))
    [ inl below ↦ absurd (out (subst (FitsSigned w64) (sym is) (fits_pos n below))) | inr above ↦ above ] in
    let same : number_event u ≡ integer_event n (pos n) = ap number_event (is_text ∙ ap signed_decimal is)
    ∙ sym (event_large n (pos n) large) in
    with_argument w limit c t ls s es Unsigned n r head.0 head.1 (fs, en, e ∙ ap (λ x. by_byte x (length r) ∷ fs) same)
initial_onward w limit c t ls s r es fs (number u) ((z, out, is_text, (n, inr (head, is))), e) room en =
    let large : 2 ^ 63 ≤ n = elim (cases_lt n (2 ^ 63))
    [ inl below ↦ absurd (out (subst (FitsSigned w64) (sym is) (fits_neg n below))) | inr above ↦ above ] in
    let same : number_event u ≡ integer_event n (negsuc n) = ap number_event (is_text ∙ ap signed_decimal is)
    ∙ sym (event_large n (negsuc n) large) in
    with_argument w limit c t ls s es Negative n r head.0 head.1 (fs, en, e ∙ ap (λ x. by_byte x (length r) ∷ fs) same)
initial_onward w limit c t ls s r es fs (text u) (inl (s1, head, is, utf8), e) room en =
    with_argument w limit c t ls s es (StringHead Text Whole) (length u) s1 head.0 head.1 (u, r, is, refl, utf8_runs u utf8, (fs, en, e))
initial_onward w limit c t ls s r es fs (text u) (inr (s1, us, first, chunks, is), e) room en = (
  ChunksHead Text,
  first.0,
  (
    us,
    r,
    subst (λ x. ChunkBytes 3 IsUtf8 us x r) (sym first.1) chunks,
    (fs, en, e ∙ ap (λ x. by_byte (text_event x) (length r) ∷ fs) is),
  ),
)
initial_onward w limit c t ls s r es fs (bytes u) (inl (s1, head, is, are), e) room en =
    with_argument w limit c t ls s es (StringHead Bytes Whole) (length u) s1 head.0 head.1 (u, r, is, refl, are, (fs, en, e))
initial_onward w limit c t ls s r es fs (bytes u) (inr (s1, us, first, chunks, is), e) room en = (
  ChunksHead Bytes,
  first.0,
  (
    us,
    r,
    subst (λ x. ChunkBytes 2 AreBytes us x r) (sym first.1) chunks,
    (fs, en, e ∙ ap (λ x. by_byte (bytes_event x) (length r) ∷ fs) is),
  ),
)
initial_onward w limit c t ls s r es fs (tag k n) (s1, vs, head, e, h) room en =
    with_argument w limit c t ls s es TagHead k s1 head.0 head.1 (vs, (n, r, fs, h, omega arith, en), e)
initial_onward w limit c t ls s r es fs (opaque b) ((first, kind, n, argument, is), e) room en =
    with_argument w limit c t ls s es (Opaque b) n r (first, kind, opaque_range (c % 32) n is) argument
    (fs, subst (λ x. IsOpaque (x % 32) n) first is, en, e)
initial_onward w limit c t ls s r es fs (list ns) (inl (n, s1, vs, head, e, h)) room en =
    with_argument w limit c t ls s es ListHead n s1 head.0 head.1 (vs, (ns, r, fs, h, omega arith, en), e)
initial_onward w limit c t ls s r es fs (list ns) (inr (s1, vs, first, e, h)) room en =
    (EntriesHead, first.0, leaf_at w limit (start_list None) (AListToBreak ∷ ls) s s1 es vs first.1 (ns, r, fs, h, omega arith, en) e)
initial_onward w limit c t ls s r es fs (object ms) (inl (n, s1, vs, head, e, h)) room en =
    with_argument w limit c t ls s es MapHead n s1 head.0 head.1 (vs, (ms, r, fs, h, omega arith, en), e)
initial_onward w limit c t ls s r es fs (object ms) (inr (s1, vs, first, e, h)) room en =
    (PairsHead, first.0, leaf_at w limit (start_object None) (AMapToBreak ∷ ls) s s1 es vs first.1 (ms, r, fs, h, omega arith, en) e)

pub initial_byte : (w : Keys) (limit c : ℕ) (t : List ℕ) (ls : List Level) (s : List ℕ) (es : List TimedEvent)
    → ItemComes w limit ls (c ∷ s) es
    → InitialByte w limit c t ls s es
initial_byte w limit c t ls s es (n, r, fs, h, room, en) = initial_onward w limit c t ls s r es fs n h room en

-- and back
argument_back_to_item : (w : Keys) (limit c : ℕ) (t : List ℕ) (ls : List Level) (s : List ℕ) (es : List TimedEvent) (j : Subject) (n : ℕ)
    (r : List ℕ)
    → length ls ≤ limit → SubjectIs c j → Argument (c % 32) n s r → ArgumentEnded w limit j n t ls r es → ItemComes w limit ls (c ∷ s) es
argument_back_to_item w limit c t ls s es Unsigned n r room is a (fs, en, e) =
    let flat = integer_levels n (pos n) in (
      integer_node n (pos n),
      r,
      fs,
      integer_timed w n (pos n) (c ∷ s) r es fs (fits_pos n) (small_pos n) (n, inl ((is, a), refl)) e,
      omega arith,
      en,
    )
argument_back_to_item w limit c t ls s es Negative n r room is a (fs, en, e) =
    let flat = integer_levels n (negsuc n) in (
      integer_node n (negsuc n),
      r,
      fs,
      integer_timed w n (negsuc n) (c ∷ s) r es fs (fits_neg n) (small_neg n) (n, inr ((is, a), refl)) e,
      omega arith,
      en,
    )
argument_back_to_item w limit c t ls s es (StringHead Bytes Whole) n r room is a (u, q, split, len, are, (fs, en, e)) =
    (bytes u, q, fs, (inl (r, (is, subst (λ x. Argument (c % 32) x s r) (sym len) a), split, are), e), omega arith, en)
argument_back_to_item w limit c t ls s es (StringHead Text Whole) n r room is a (u, q, split, len, runs, (fs, en, e)) =
    (text u, q, fs, (inl (r, (is, subst (λ x. Argument (c % 32) x s r) (sym len) a), split, rest_utf8 u runs), e), omega arith, en)
argument_back_to_item w limit c t ls s es (StringHead KeyText Whole) n r room is a h = absurd is
argument_back_to_item w limit c t ls s es (StringHead Bytes Chunk) n r room is a h = absurd is
argument_back_to_item w limit c t ls s es (StringHead Text Chunk) n r room is a h = absurd is
argument_back_to_item w limit c t ls s es (StringHead KeyText Chunk) n r room is a h = absurd is
argument_back_to_item w limit c t ls s es ListHead n r room is a (gs, (ns, q, fs, h, deep, en), e) =
    (list ns, q, fs, inl (n, r, gs, (is, a), e, h), omega arith, en)
argument_back_to_item w limit c t ls s es MapHead n r room is a (gs, (ms, q, fs, h, deep, en), e) =
    (object ms, q, fs, inl (n, r, gs, (is, a), e, h), omega arith, en)
argument_back_to_item w limit c t ls s es TagHead n r room is a (gs, (x, q, fs, h, deep, en), e) =
    (tag n x, q, fs, (r, gs, (is, a), e, h), omega arith, en)
argument_back_to_item w limit c t ls s es (Opaque b) n r room is a (fs, opq, en, e) =
    (opaque b, r, fs, ((is.0, is.1, n, a, subst (λ x. IsOpaque (x % 32) n) (sym is.0) opq), e), omega arith, en)

head_back_to_item : (w : Keys) (limit c : ℕ) (h : Head) (t : List ℕ) (ls : List Level) (s : List ℕ) (es : List TimedEvent)
    → length ls ≤ limit → HeadIs c h → HeadComes w limit h t ls s es → ItemComes w limit ls (c ∷ s) es
head_back_to_item w limit c (ArgumentHead j k v) t ls s es room is (n, r, more, h) =
    argument_back_to_item w limit c t ls s es j n r room is.0 (argument_back (c % 32) k v n s r is.1 more) h
head_back_to_item w limit c (ChunksHead Bytes) t ls s es room is (us, q, h, (fs, en, e)) =
    (bytes (concat us), q, fs, (inr (s, us, (is, refl), h, refl), e), omega arith, en)
head_back_to_item w limit c (ChunksHead Text) t ls s es room is (us, q, h, (fs, en, e)) =
    (text (concat us), q, fs, (inr (s, us, (is, refl), h, refl), e), omega arith, en)
head_back_to_item w limit c (ChunksHead KeyText) t ls s es room is h = absurd is
head_back_to_item w limit c EntriesHead t ls s es room is (gs, (ns, q, fs, h, deep, en), e) =
    (list ns, q, fs, inr (s, gs, (is, refl), e, h), omega arith, en)
head_back_to_item w limit c PairsHead t ls s es room is (gs, (ms, q, fs, h, deep, en), e) =
    (object ms, q, fs, inr (s, gs, (is, refl), e, h), omega arith, en)
head_back_to_item w limit c NullHead t ls s es room (inl is) (fs, en, e) = (null, s, fs, (inl (is, refl), e), omega arith, en)
head_back_to_item w limit c NullHead t ls s es room (inr is) (fs, en, e) = (null, s, fs, (inr (is, refl), e), omega arith, en)
head_back_to_item w limit c (BoolHead false) t ls s es room is (fs, en, e) = (bool false, s, fs, ((is, refl), e), omega arith, en)
head_back_to_item w limit c (BoolHead true) t ls s es room is (fs, en, e) = (bool true, s, fs, ((is, refl), e), omega arith, en)
head_back_to_item w limit c NoItem t ls s es room is h = absurd h

-- so what may come of an item is what its initial byte says
pub item_onward : (w : Keys) (limit c : ℕ) (h : Head) (t : List ℕ) (ls : List Level) (s : List ℕ) (es : List TimedEvent) → HeadIs c h
    → ItemComes w limit ls (c ∷ s) es → HeadComes w limit h t ls s es
item_onward w limit c h t ls s es is comes =
    let (g, is_g, there) = initial_byte w limit c t ls s es comes in
    subst (λ x. HeadComes w limit x t ls s es) (one_head c g h is_g is) there

pub item_back : (w : Keys) (limit c : ℕ) (h : Head) (t : List ℕ) (ls : List Level) (s : List ℕ) (es : List TimedEvent) → length ls ≤ limit
    → HeadIs c h → HeadComes w limit h t ls s es → ItemComes w limit ls (c ∷ s) es
item_back w limit c h t ls s es room is there = head_back_to_item w limit c h t ls s es room is there

pub argument_leads : (w : Keys) (limit c k v : ℕ) (j : Subject) (t : List ℕ) (ls : List Level) → length ls ≤ limit
    → HeadIs c (ArgumentHead j k v)
    → CborLeads w limit (at Item t ls) (c ∷ []) [] (at (InArgument j k v) t ls)
argument_leads w limit c k v j t ls room is = leads_silent (λ s es h. item_onward w limit c (ArgumentHead j k v) t ls s es is h)
    (λ s fs h. item_back w limit c (ArgumentHead j k v) t ls s fs room is h)

pub chunks_lead : (w : Keys) (limit c : ℕ) (kind : StringKind) (t : List ℕ) (ls : List Level) → length ls ≤ limit
    → HeadIs c (ChunksHead kind) → CborLeads w limit (at Item t ls) (c ∷ []) [] (at (Chunks kind) [] ls)
chunks_lead w limit c kind t ls room is = leads_silent (λ s es h. item_onward w limit c (ChunksHead kind) t ls s es is h)
    (λ s fs h. item_back w limit c (ChunksHead kind) t ls s fs room is h)

-- a head that completes an event, and what is open behind it
leaf_leads : (w : Keys) (limit c : ℕ) (h : Head) (e : NodeEvent) (t u : List ℕ) (ls ks : List Level) → length ls ≤ limit → HeadIs c h
    → ((s : List ℕ) (es : List TimedEvent) → HeadComes w limit h t ls s es → Leaf w limit e ks s es)
    → ((s : List ℕ) (es : List TimedEvent) → Leaf w limit e ks s es → HeadComes w limit h t ls s es)
    → CborLeads w limit (at Item t ls) (c ∷ []) (e ∷ []) (at After u ks)
leaf_leads w limit c h e t u ls ks room is to from = leads_one e (λ s es comes. to s es (item_onward w limit c h t ls s es is comes))
    (λ s fs en. item_back w limit c h t ls s (by_byte e (length s) ∷ fs) room is (from s (by_byte e (length s) ∷ fs) (fs, en, refl)))

pub list_leads : (w : Keys) (limit c : ℕ) (t u : List ℕ) (ls : List Level) → length ls ≤ limit → HeadIs c EntriesHead
    → CborLeads w limit (at Item t ls) (c ∷ []) (start_list None ∷ []) (at After u (AListToBreak ∷ ls))
list_leads w limit c t u ls room is = leaf_leads w limit c EntriesHead (start_list None) t u ls (AListToBreak ∷ ls) room is (λ s es h. h)
    (λ s es h. h)

pub map_leads : (w : Keys) (limit c : ℕ) (t u : List ℕ) (ls : List Level) → length ls ≤ limit → HeadIs c PairsHead
    → CborLeads w limit (at Item t ls) (c ∷ []) (start_object None ∷ []) (at After u (AMapToBreak ∷ ls))
map_leads w limit c t u ls room is = leaf_leads w limit c PairsHead (start_object None) t u ls (AMapToBreak ∷ ls) room is (λ s es h. h)
    (λ s es h. h)

pub null_leads : (w : Keys) (limit c : ℕ) (t u : List ℕ) (ls : List Level) → length ls ≤ limit → HeadIs c NullHead
    → CborLeads w limit (at Item t ls) (c ∷ []) (null_event ∷ []) (at After u ls)
null_leads w limit c t u ls room is = leaf_leads w limit c NullHead null_event t u ls ls room is (λ s es h. h) (λ s es h. h)

pub bool_leads : (w : Keys) (limit c : ℕ) (b : Bool) (t u : List ℕ) (ls : List Level) → length ls ≤ limit → HeadIs c (BoolHead b)
    → CborLeads w limit (at Item t ls) (c ∷ []) (bool_event b ∷ []) (at After u ls)
bool_leads w limit c b t u ls room is = leaf_leads w limit c (BoolHead b) (bool_event b) t u ls ls room is (λ s es h. h) (λ s es h. h)

-- no item begins with a break or a reserved byte
pub item_stops : (w : Keys) (limit c : ℕ) (t : List ℕ) (ls : List Level) → HeadIs c NoItem → CborStops w limit (at Item t ls) c
item_stops w limit c t ls is s es h = item_onward w limit c NoItem t ls s es is h
