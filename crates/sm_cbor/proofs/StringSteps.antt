-- What bytes leave to come of a string and of its chunks: the laws of `CborLeads` and `CborStops` there.
use Rattle.std.proofs.Common.{◌≡◌, ◌≢◌, ℕ, ◌+◌, ◌-◌, ◌/◌, ◌%◌, ◌≤◌, ◌<◌, Option, None, Some, List, [], ◌∷◌, ◌++◌, refl, sym, ap, subst}
use Rattle.std.proofs.Common.{◌∙◌, arith, length, length-append, append-nil, append_assoc, IsUtf8}
use Rattle.std.specs.List.{concat}
use Rattle.sm_tree.specs.Json.{AreBytes}
use Rattle.sm_tree.proofs.ListEnds.{tails}
use Rattle.sm_tree.specs.Events.{key_event, text_event, bytes_event}
use Rattle.sm_tree.specs.Timing.{TimedEvent, by_byte}
use Rattle.sm_bytes.specs.declared.utf8.Utf8.{Utf8}
use Rattle.sm_bytes.specs.declared.utf8.Utf8.TheVariants.{Between}
use Rattle.sm_bytes.specs.Utf8 as utf8
use Rattle.sm_bytes.proofs.Characters.{utf8_runs, rest_utf8, over, no_rest, whole_then, rest_fits, no_byte}
use Rattle.sm_cbor.specs.Heads.{Argument}
use Rattle.sm_cbor.specs.steps.Marks.{Keys}
use Rattle.sm_cbor.specs.steps.Reading.{StartsNumber, major_of, IsOf, EndsAs}
use Rattle.sm_cbor.specs.steps.Rest.{StringEnded, ChunksCome, SpanEnded, CborStringComes, ArgumentComes, CborLeads, CborStops}
use Rattle.sm_cbor.specs.declared.place.StringKind.{StringKind}
use Rattle.sm_cbor.specs.declared.place.StringKind.TheVariants.{Bytes, Text, Key as KeyText}
use Rattle.sm_cbor.specs.declared.place.Span.{Span}
use Rattle.sm_cbor.specs.declared.place.Span.TheVariants.{Whole, Chunk}
use Rattle.sm_cbor.specs.declared.place.Subject.TheVariants.{String as StringHead}
use Rattle.sm_cbor.specs.declared.place.Level.{Level}
use Rattle.sm_cbor.specs.declared.place.CborPlace.TheVariants.{Item, After, Argument as InArgument, String, Chunks}
use Rattle.sm_cbor.proofs.Arguments.{argument_onward, argument_back, no_argument}
use Rattle.sm_cbor.proofs.Items.{at}
use Rattle.sm_cbor.proofs.Readings.{leads_silent, leads_one}

-- a run that is no longer than what comes is its prefix
pub split : (v s u r : List ℕ) → v ++ s ≡ u ++ r → length v ≤ length u → (q : List ℕ) × (u ≡ v ++ q) × (s ≡ q ++ r)
split [] s u r e few = (u, refl, e)
split (c ∷ v) s [] r e few = absurd (omega arith)
split (c ∷ v) s (d ∷ u) r e few =
    let (q, f, g) = split v s u r (tails c d (v ++ s) (u ++ r) e) (omega arith) in
    let first : c ≡ d = cc in
    (q, cc, g)

-- a run of bytes of the string
pub string_runs : (w : Keys) (limit : ℕ) (kind : StringKind) (span : Span) (n : ℕ) (place q : Utf8) (t v : List ℕ) (ls : List Level)
    → length v ≤ n
    → ((u : List ℕ) → EndsAs kind place (v ++ u) → EndsAs kind q u) → ((u : List ℕ) → EndsAs kind q u → EndsAs kind place (v ++ u))
    → CborLeads w limit (at (String kind span n place) t ls) v [] (at (String kind span (n - length v) q) (t ++ v) ls)
string_runs w limit kind span n place q t v ls few to from = leads_silent
    (λ s es h.
    let (u, r, e, len, ends, more) = h in
    let (p, f, g) = split v s u r e (omega arith) in
    let ends1 = subst (EndsAs kind place) f ends in (
      p,
      r,
      g,
      omega (arith, len, ap length f, length-append v p),
      to p ends1,
      subst (λ x. SpanEnded w limit kind span x ls r es) (ap (λ x. t ++ x) f ∙ sym (append_assoc t v p)) more,
    ))
    (λ s fs h.
    let (p, r, g, len, ends, more) = h in (
      v ++ p,
      r,
      ap (λ x. v ++ x) g ∙ sym (append_assoc v p r),
      omega (arith, len, length-append v p),
      from p ends,
      subst (λ x. SpanEnded w limit kind span x ls r fs) (append_assoc t v p) more,
    ))

-- bytes, and whole characters, before the rest
pub bytes_prefix : (v u : List ℕ) → AreBytes v → AreBytes u → AreBytes (v ++ u)
bytes_prefix [] u a b = b
bytes_prefix (c ∷ v) u a b = (a.0, bytes_prefix v u a.1 b)

pub bytes_behind : (v u : List ℕ) → AreBytes (v ++ u) → AreBytes u
bytes_behind [] u a = a
bytes_behind (c ∷ v) u a = bytes_behind v u a.1

pub bytes_run : (w : Keys) (limit : ℕ) (span : Span) (n : ℕ) (place : Utf8) (t v : List ℕ) (ls : List Level) → length v ≤ n → AreBytes v
    → CborLeads w limit (at (String Bytes span n place) t ls) v [] (at (String Bytes span (n - length v) place) (t ++ v) ls)
bytes_run w limit span n place t v ls few are =
    string_runs w limit Bytes span n place place t v ls few (λ u h. bytes_behind v u h) (λ u h. bytes_prefix v u are h)

abbrev pub IsText : StringKind → Type 0
IsText Bytes = ⊥
IsText Text = Unit {0}
IsText KeyText = Unit {0}

pub text_onward : (kind : StringKind) (place q : Utf8) (v u : List ℕ) → IsText kind → utf8.run place (v ++ u) ≡ utf8.run q u
    → EndsAs kind place (v ++ u) → EndsAs kind q u
text_onward Bytes place q v u is e h = absurd is
text_onward Text place q v u is e h = sym e ∙ h
text_onward KeyText place q v u is e h = sym e ∙ h

pub text_back : (kind : StringKind) (place q : Utf8) (v u : List ℕ) → IsText kind → utf8.run place (v ++ u) ≡ utf8.run q u → EndsAs kind q u
    → EndsAs kind place (v ++ u)
text_back Bytes place q v u is e h = absurd is
text_back Text place q v u is e h = e ∙ h
text_back KeyText place q v u is e h = e ∙ h

pub text_run : (w : Keys) (limit : ℕ) (kind : StringKind) (span : Span) (n : ℕ) (t v : List ℕ) (ls : List Level) → IsText kind
    → length v ≤ n → IsUtf8 v
    → CborLeads w limit (at (String kind span n Between) t ls) v [] (at (String kind span (n - length v) Between) (t ++ v) ls)
text_run w limit kind span n t v ls is few whole =
    let same = λ (u : List ℕ). whole_then v u Between (utf8_runs v whole) in
    string_runs w limit kind span n Between Between t v ls few (λ u h. text_onward kind Between Between v u is (same u) h)
    (λ u h. text_back kind Between Between v u is (same u) h)

pub text_byte : (w : Keys) (limit : ℕ) (kind : StringKind) (span : Span) (n : ℕ) (place q : Utf8) (t : List ℕ) (c : ℕ) (ls : List Level)
    → IsText kind → 0 < n → utf8.step place c ≡ Some q
    → CborLeads w limit (at (String kind span n place) t ls) (c ∷ []) [] (at (String kind span (n - 1) q) (t ++ c ∷ []) ls)
text_byte w limit kind span n place q t c ls is some step =
    string_runs w limit kind span n place q t (c ∷ []) ls some
    (λ u h. text_onward kind place q (c ∷ []) u is (over place q c u step) h)
    (λ u h. text_back kind place q (c ∷ []) u is (over place q c u step) h)

-- a byte with which the string doesn't go on, or not within its length
string_halts : (w : Keys) (limit : ℕ) (kind : StringKind) (span : Span) (n : ℕ) (place : Utf8) (t : List ℕ) (c : ℕ) (ls : List Level)
    → 0 < n
    → ((u : List ℕ) → length u + 1 ≡ n → EndsAs kind place (c ∷ u) → ⊥) → CborStops w limit (at (String kind span n place) t ls) c
string_halts w limit kind span n place t c ls some none s es ([], r, e, len, ends, more) = omega arith
string_halts w limit kind span n place t c ls some none s es (d ∷ u, r, e, len, ends, more) =
    let same : d ≡ c = cc in none u (omega arith) (subst (λ x. EndsAs kind place (x ∷ u)) same ends)

abbrev pub Misfits : Utf8 → ℕ → Option Utf8 → Type 0
Misfits place n None = Unit {0}
Misfits place n (Some q) = n ≤ utf8.owed q

misfit : (place : Utf8) (c n : ℕ) (u : List ℕ) (o : Option Utf8) → utf8.step place c ≡ o → Misfits place n o → length u + 1 ≡ n
    → utf8.Rest place (c ∷ u) → ⊥
misfit place c n u None e mis len h = no_rest place c u e h
misfit place c n u (Some q) e mis len h = let few = rest_fits u q (sym (over place q c u e) ∙ h) in omega arith

text_rest : (kind : StringKind) (place : Utf8) (u : List ℕ) → IsText kind → EndsAs kind place u → utf8.Rest place u
text_rest Bytes place u is h = absurd is
text_rest Text place u is h = h
text_rest KeyText place u is h = h

pub text_stops : (w : Keys) (limit : ℕ) (kind : StringKind) (span : Span) (n : ℕ) (place : Utf8) (t : List ℕ) (c : ℕ) (ls : List Level)
    (o : Option Utf8) → IsText kind → 0 < n
    → utf8.step place c ≡ o → Misfits place n o → CborStops w limit (at (String kind span n place) t ls) c
text_stops w limit kind span n place t c ls o is some e mis =
    string_halts w limit kind span n place t c ls some (λ u len h. misfit place c n u o e mis len (text_rest kind place (c ∷ u) is h))

-- a mark is in no string
no_mark_in : (kind : StringKind) (place : Utf8) (u : List ℕ) → EndsAs kind place (256 ∷ u) → ⊥
no_mark_in Bytes place u h = let f = h.0 in omega arith
no_mark_in Text place u h = no_rest place 256 u (no_byte place) h
no_mark_in KeyText place u h = no_rest place 256 u (no_byte place) h

pub string_no_mark : (w : Keys) (limit : ℕ) (kind : StringKind) (span : Span) (n : ℕ) (place : Utf8) (t : List ℕ) (ls : List Level) → 0 < n
    → CborStops w limit (at (String kind span n place) t ls) 256
string_no_mark w limit kind span n place t ls some =
    string_halts w limit kind span n place t 256 ls some (λ u len h. no_mark_in kind place u h)

-- the bytes don't end within it
pub string_owed : (w : Keys) (limit : ℕ) (kind : StringKind) (span : Span) (n : ℕ) (place : Utf8) (t : List ℕ) (ls : List Level)
    (es : List TimedEvent) → 0 < n → CborStringComes w limit kind span n place t ls [] es → ⊥
string_owed w limit kind span n place t ls es some ([], r, e, len, ends, more) = omega arith
string_owed w limit kind span n place t ls es some (d ∷ u, r, e, len, ends, more) = let f : [] ≡ d ∷ (u ++ r) = e in cc

-- behind its last byte
pub ends_nil : (kind : StringKind) → EndsAs kind Between []
ends_nil Bytes = tt
ends_nil Text = refl
ends_nil KeyText = refl

pub span_onward : (w : Keys) (limit : ℕ) (kind : StringKind) (span : Span) (t : List ℕ) (ls : List Level) (s : List ℕ)
    (es : List TimedEvent)
    → CborStringComes w limit kind span 0 Between t ls s es → SpanEnded w limit kind span t ls s es
span_onward w limit kind span t ls s es ([], r, e, len, ends, more) =
    subst (λ x. SpanEnded w limit kind span t ls x es) (sym e) (subst (λ x. SpanEnded w limit kind span x ls r es) (append-nil t) more)
span_onward w limit kind span t ls s es (d ∷ u, r, e, len, ends, more) = absurd (omega arith)

pub span_back : (w : Keys) (limit : ℕ) (kind : StringKind) (span : Span) (t : List ℕ) (ls : List Level) (s : List ℕ) (es : List TimedEvent)
    → SpanEnded w limit kind span t ls s es → CborStringComes w limit kind span 0 Between t ls s es
span_back w limit kind span t ls s es more =
    ([], s, refl, refl, ends_nil kind, subst (λ x. SpanEnded w limit kind span x ls s es) (sym (append-nil t)) more)

pub bytes_end : (w : Keys) (limit : ℕ) (t u : List ℕ) (ls : List Level)
    → CborLeads w limit (at (String Bytes Whole 0 Between) t ls) [] (bytes_event t ∷ []) (at After u ls)
bytes_end w limit t u ls = leads_one (bytes_event t) (λ s es h. span_onward w limit Bytes Whole t ls s es h)
    (λ s fs h. span_back w limit Bytes Whole t ls s (by_byte (bytes_event t) (length s) ∷ fs) (fs, h, refl))

pub text_end : (w : Keys) (limit : ℕ) (t u : List ℕ) (ls : List Level)
    → CborLeads w limit (at (String Text Whole 0 Between) t ls) [] (text_event t ∷ []) (at After u ls)
text_end w limit t u ls = leads_one (text_event t) (λ s es h. span_onward w limit Text Whole t ls s es h)
    (λ s fs h. span_back w limit Text Whole t ls s (by_byte (text_event t) (length s) ∷ fs) (fs, h, refl))

pub key_end : (w : Keys) (limit : ℕ) (t u : List ℕ) (ls : List Level)
    → CborLeads w limit (at (String KeyText Whole 0 Between) t ls) [] (key_event t ∷ []) (at Item u ls)
key_end w limit t u ls = leads_one (key_event t) (λ s es h. span_onward w limit KeyText Whole t ls s es h)
    (λ s fs h. span_back w limit KeyText Whole t ls s (by_byte (key_event t) (length s) ∷ fs) (fs, h, refl))

pub chunk_end : (w : Keys) (limit : ℕ) (kind : StringKind) (t : List ℕ) (ls : List Level)
    → CborLeads w limit (at (String kind Chunk 0 Between) t ls) [] [] (at (Chunks kind) t ls)
chunk_end w limit kind t ls = leads_silent (λ s es h. span_onward w limit kind Chunk t ls s es h)
    (λ s fs h. span_back w limit kind Chunk t ls s fs h)

-- a break, and the head of a chunk
string_type : (kind : StringKind) → (2 ≤ major_of kind) × (major_of kind ≤ 3)
string_type Bytes = (omega arith, omega arith)
string_type Text = (omega arith, omega arith)
string_type KeyText = (omega arith, omega arith)

pub ends_of : (kind : StringKind) (u : List ℕ) → IsOf kind u → EndsAs kind Between u
ends_of Bytes u h = h
ends_of Text u h = utf8_runs u h
ends_of KeyText u h = utf8_runs u h

pub ends_are : (kind : StringKind) (u : List ℕ) → EndsAs kind Between u → IsOf kind u
ends_are Bytes u h = h
ends_are Text u h = rest_utf8 u h
ends_are KeyText u h = rest_utf8 u h

break_onward : (w : Keys) (limit c : ℕ) (kind : StringKind) (t : List ℕ) (ls : List Level) (s : List ℕ) (es : List TimedEvent) → c ≡ 0xFF
    → ChunksCome w limit kind t ls (c ∷ s) es → StringEnded w limit kind t ls s es
break_onward w limit c kind t ls s es is ([], r, h, more) =
    subst (λ x. StringEnded w limit kind t ls x es) (sym h.1) (subst (λ x. StringEnded w limit kind x ls r es) (append-nil t) more)
break_onward w limit c kind t ls s es is (u ∷ us, r, (s2, (s1, head, e, are), chunks), more) = let (low, high) = string_type kind in
    let first = head.0 in absurd (omega arith)

pub break_leads : (w : Keys) (limit c : ℕ) (kind : StringKind) (t : List ℕ) (ls : List Level) → c ≡ 0xFF
    → CborLeads w limit (at (Chunks kind) t ls) (c ∷ []) [] (at (String kind Whole 0 Between) t ls)
break_leads w limit c kind t ls is = leads_silent
    (λ s es h. span_back w limit kind Whole t ls s es (break_onward w limit c kind t ls s es is h))
    (λ s fs h. (
      [],
      s,
      (is, refl),
      subst (λ x. StringEnded w limit kind x ls s fs) (sym (append-nil t)) (span_onward w limit kind Whole t ls s fs h),
    ))

chunk_onward : (w : Keys) (limit c k v : ℕ) (kind : StringKind) (t : List ℕ) (ls : List Level) (s : List ℕ) (es : List TimedEvent)
    → c / 32 ≡ major_of kind → StartsNumber (c % 32) k v
    → ChunksCome w limit kind t ls (c ∷ s) es → ArgumentComes w limit (StringHead kind Chunk) k v t ls s es
chunk_onward w limit c k v kind t ls s es is starts ([], r, h, more) = let (low, high) = string_type kind in let first = h.0 in
    absurd (omega arith)
chunk_onward w limit c k v kind t ls s es is starts (u ∷ us, r, (s2, (s1, head, e, are), chunks), more) = (
  length u,
  s1,
  argument_onward (c % 32) k v (length u) s s1 starts head.1,
  (
    u,
    s2,
    e,
    refl,
    ends_of kind u are,
    (
      us,
      r,
      chunks,
      subst (λ x. StringEnded w limit kind x ls r es) (sym (append_assoc t u (concat us)))
          more,
    ),
  ),
)

chunk_back : (w : Keys) (limit c k v : ℕ) (kind : StringKind) (t : List ℕ) (ls : List Level) (s : List ℕ) (es : List TimedEvent)
    → c / 32 ≡ major_of kind → StartsNumber (c % 32) k v
    → ArgumentComes w limit (StringHead kind Chunk) k v t ls s es → ChunksCome w limit kind t ls (c ∷ s) es
chunk_back w limit c k v kind t ls s es is starts (n, s1, more, (u, s2, e, len, ends, (us, r, chunks, ended))) = (
  u ∷ us,
  r,
  (
    s2,
    (s1, (is, subst (λ x. Argument (c % 32) x s s1) (sym len) (argument_back (c % 32) k v n s s1 starts more)), e, ends_are kind u ends),
    chunks,
  ),
  subst (λ x. StringEnded w limit kind x ls r es) (append_assoc t u (concat us)) ended,
)

pub chunk_leads : (w : Keys) (limit c k v : ℕ) (kind : StringKind) (t : List ℕ) (ls : List Level) → c / 32 ≡ major_of kind
    → StartsNumber (c % 32) k v
    → CborLeads w limit (at (Chunks kind) t ls) (c ∷ []) [] (at (InArgument (StringHead kind Chunk) k v) t ls)
chunk_leads w limit c k v kind t ls is starts = leads_silent (λ s es h. chunk_onward w limit c k v kind t ls s es is starts h)
    (λ s fs h. chunk_back w limit c k v kind t ls s fs is starts h)

pub chunks_stop : (w : Keys) (limit c : ℕ) (kind : StringKind) (t : List ℕ) (ls : List Level) → c ≢ 0xFF
    → (c / 32 ≡ major_of kind → 28 ≤ c % 32) → CborStops w limit (at (Chunks kind) t ls) c
chunks_stop w limit c kind t ls no_break no_head s es ([], r, h, more) = no_break h.0
chunks_stop w limit c kind t ls no_break no_head s es (u ∷ us, r, (s2, (s1, head, e, are), chunks), more) =
    no_argument (c % 32) (length u) s s1 (no_head head.0) head.1

pub chunks_owed : (w : Keys) (limit : ℕ) (kind : StringKind) (t : List ℕ) (ls : List Level) (es : List TimedEvent)
    → ChunksCome w limit kind t ls [] es → ⊥
chunks_owed w limit kind t ls es ([], r, h, more) = h
chunks_owed w limit kind t ls es (u ∷ us, r, (s2, (s1, head, e, are), chunks), more) = head
