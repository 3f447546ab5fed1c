-- What the initial byte of a map's key leaves to come, and where a mark may stand in place of one.
use Rattle.std.proofs.Common.{◌≡◌, ◌≢◌, ℕ, ◌/◌, ◌%◌, ◌≤◌, inl, inr, List, [], ◌∷◌, refl, sym, ap, subst, ◌∙◌, arith, length, IsUtf8}
use Rattle.std.specs.List.{concat}
use Rattle.sm_tree.specs.Events.{key_event}
use Rattle.sm_tree.specs.Timing.{TimedEvent, by_byte}
use Rattle.sm_bytes.proofs.Characters.{utf8_runs, rest_utf8}
use Rattle.sm_cbor.specs.Heads.{Argument}
use Rattle.sm_cbor.specs.CborItem.{TextString, Chunks as ChunkBytes}
use Rattle.sm_cbor.specs.steps.Marks.{Keys, plain, marked, key_of}
use Rattle.sm_cbor.specs.steps.Reading.{StartsNumber}
use Rattle.sm_cbor.specs.steps.Rest.{ItemComes, CborKeyComes, ChunksCome, ArgumentComes, CborLeads, CborStops}
use Rattle.sm_cbor.specs.declared.place.StringKind.TheVariants.{Key as KeyText}
use Rattle.sm_cbor.specs.declared.place.Span.TheVariants.{Whole}
use Rattle.sm_cbor.specs.declared.place.Subject.TheVariants.{String as StringHead}
use Rattle.sm_cbor.specs.declared.place.Level.{Level}
use Rattle.sm_cbor.specs.declared.place.CborPlace.TheVariants.{Key, Argument as InArgument, Chunks}
use Rattle.sm_cbor.proofs.Arguments.{no_start, argument_onward, argument_back, no_argument}
use Rattle.sm_cbor.proofs.Items.{at}
use Rattle.sm_cbor.proofs.Readings.{leads_silent}

-- a key that is no mark is a text
key_text : (w : Keys) (c : ℕ) (k s r : List ℕ) → c ≢ 256 → key_of w k (c ∷ s) r → TextString k (c ∷ s) r
key_text plain c k s r no_mark h = h
key_text marked c k s r no_mark (inl h) = h
key_text marked c k s r no_mark (inr h) = absurd (no_mark h.0.0)

text_key : (w : Keys) (k s r : List ℕ) → TextString k s r → key_of w k s r
text_key plain k s r h = h
text_key marked k s r h = inl h

-- the head of a text with a length
with_length : (w : Keys) (limit c k v : ℕ) (t : List ℕ) (ls : List Level) (s : List ℕ) (es : List TimedEvent) (u s1 : List ℕ)
    (fs : List TimedEvent) → StartsNumber (c % 32) k v
    → TextString u (c ∷ s) s1 → ItemComes w limit ls s1 fs → es ≡ by_byte (key_event u) (length s1) ∷ fs
    → ArgumentComes w limit (StringHead KeyText Whole) k v t ls s es
with_length w limit c k v t ls s es u s1 fs starts (inl (s0, head, split, utf8)) item e =
    (length u, s0, argument_onward (c % 32) k v (length u) s s0 starts head.1, (u, s1, split, refl, utf8_runs u utf8, (fs, item, e)))
with_length w limit c k v t ls s es u s1 fs starts (inr (s0, us, first, chunks, is)) item e =
    absurd (let f = first.0 in no_start (c % 32) k v (omega arith) starts)

length_back : (w : Keys) (limit c k v : ℕ) (t : List ℕ) (ls : List Level) (s : List ℕ) (es : List TimedEvent) → c / 32 ≡ 3
    → StartsNumber (c % 32) k v
    → ArgumentComes w limit (StringHead KeyText Whole) k v t ls s es → CborKeyComes w limit ls (c ∷ s) es
length_back w limit c k v t ls s es is starts (n, s0, more, (u, s1, split, len, runs, (fs, item, e))) = (
  u,
  s1,
  fs,
  text_key w u (c ∷ s) s1 (inl (
    s0,
    (is, subst (λ x. Argument (c % 32) x s s0) (sym len) (argument_back (c % 32) k v n s s0 starts more)),
    split,
    rest_utf8 u
        runs,
  )),
  item,
  e,
)

pub key_leads : (w : Keys) (limit c k v : ℕ) (t : List ℕ) (ls : List Level) → c / 32 ≡ 3 → StartsNumber (c % 32) k v
    → CborLeads w limit (at Key t ls) (c ∷ []) [] (at (InArgument (StringHead KeyText Whole) k v) t ls)
key_leads w limit c k v t ls is starts = leads_silent
    (λ s es h. let (u, s1, fs, key, item, e) = h in
    with_length w limit c k v t ls s es u s1 fs starts (key_text w c u s s1 (λ f. omega arith) key) item e)
    (λ s fs h. length_back w limit c k v t ls s fs is starts h)

-- the head of a text in chunks
in_chunks : (w : Keys) (limit c : ℕ) (ls : List Level) (s : List ℕ) (es : List TimedEvent) (u s1 : List ℕ) (fs : List TimedEvent) → c ≡ 0x7F
    → TextString u (c ∷ s) s1 → ItemComes w limit ls s1 fs → es ≡ by_byte (key_event u) (length s1) ∷ fs
    → ChunksCome w limit KeyText [] ls s es
in_chunks w limit c ls s es u s1 fs is (inl (s0, head, split, utf8)) item e =
    absurd (no_argument (c % 32) (length u) s s0 (omega arith) head.1)
in_chunks w limit c ls s es u s1 fs is (inr (s0, us, first, chunks, joined)) item e = (
  us,
  s1,
  subst (λ x. ChunkBytes 3 IsUtf8 us x s1) (sym first.1) chunks,
  (fs, item, e ∙ ap (λ x. by_byte (key_event x) (length s1) ∷ fs) joined),
)

pub key_chunks_lead : (w : Keys) (limit c : ℕ) (t : List ℕ) (ls : List Level) → c ≡ 0x7F
    → CborLeads w limit (at Key t ls) (c ∷ []) [] (at (Chunks KeyText) [] ls)
key_chunks_lead w limit c t ls is = leads_silent
    (λ s es h. let (u, s1, fs, key, item, e) = h in
    in_chunks w limit c ls s es u s1 fs is (key_text w c u s s1 (λ f. omega arith) key) item e)
    (λ s es h. let (us, s1, chunks, (fs, item, e)) = h in
    (concat us, s1, fs, text_key w (concat us) (c ∷ s) s1 (inr (s, us, (is, refl), chunks, refl)), item, e))

-- no text begins with the byte
no_text : (c : ℕ) (u s r : List ℕ) → (c / 32 ≡ 3 → 28 ≤ c % 32) → c ≢ 0x7F → TextString u (c ∷ s) r → ⊥
no_text c u s r no_head no_chunks (inl (s0, head, split, utf8)) = no_argument (c % 32) (length u) s s0 (no_head head.0) head.1
no_text c u s r no_head no_chunks (inr (s0, us, first, chunks, is)) = no_chunks first.0

pub key_stops : (limit c : ℕ) (t : List ℕ) (ls : List Level) → (c / 32 ≡ 3 → 28 ≤ c % 32) → c ≢ 0x7F → CborStops plain limit (at Key t ls) c
key_stops limit c t ls no_head no_chunks s es (u, s1, fs, key, item, e) = no_text c u s s1 no_head no_chunks key

-- a mark stands where a key may
pub key_mark : (limit : ℕ) (ls : List Level) (s : List ℕ) (fs : List TimedEvent) → ItemComes marked limit ls s fs
    → CborKeyComes marked limit ls (256 ∷ s) (by_byte (key_event []) (length s) ∷ fs)
key_mark limit ls s fs item = ([], s, fs, inr ((refl, refl), refl), item, refl)

pub key_owed : (w : Keys) (limit : ℕ) (ls : List Level) (es : List TimedEvent) → CborKeyComes w limit ls [] es → ⊥
key_owed plain limit ls es (u, s1, fs, inl (s0, head, split, utf8), item, e) = head
key_owed plain limit ls es (u, s1, fs, inr (s0, us, first, chunks, is), item, e) = first
key_owed marked limit ls es (u, s1, fs, inl (inl (s0, head, split, utf8)), item, e) = head
key_owed marked limit ls es (u, s1, fs, inl (inr (s0, us, first, chunks, is)), item, e) = first
key_owed marked limit ls es (u, s1, fs, inr h, item, e) = h.0
