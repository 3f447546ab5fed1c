-- Whatever may come, its first byte leads on to a state between two bytes: so bytes that begin an item lead from the first
-- state to one such, and complete one list of events.
use Rattle.std.proofs.Common.{◌≡◌, ◌≢◌, ◌≤◌, ◌<◌, ◌+◌, ◌-◌, ◌*◌, ◌%◌, ℕ, suc, zero, inl, inr, Option, Some, None, List, [], ◌∷◌, ◌++◌}
use Rattle.std.proofs.Common.{refl, sym, ap, subst, ◌∙◌, arith, length, append-nil, append_assoc}
use Rattle.sm_tree.specs.Limits.{most_levels}
use Rattle.sm_tree.specs.Events.{NodeEvent}
use Rattle.sm_tree.specs.Streams.{Streams}
use Rattle.sm_tree.specs.Timing.{TimedEvent, untimed}
use Rattle.sm_tree.specs.TimingLaws.{HasOneCompletion, GoesFurther, BeginsTrees}
use Rattle.sm_tree.proofs.Handing.{handed_untimed}
use Rattle.sm_bytes.specs.declared.utf8.Utf8.{Utf8}
use Rattle.sm_bytes.specs.declared.utf8.Utf8.TheVariants.{Between}
use Rattle.sm_bytes.specs.Utf8 as utf8
use Rattle.sm_bytes.proofs.Characters.{no_rest, over, rest_fits}
use Rattle.sm_cbor.specs.CborItem.{TextString}
use Rattle.sm_cbor.specs.Timing.{cbor_timing}
use Rattle.sm_cbor.specs.steps.Marks.{plain}
use Rattle.sm_cbor.specs.steps.Reading.{HeadIs}
use Rattle.sm_cbor.specs.steps.Rest.{CborState, CborEnds, ItemComes, CborKeyComes, ChunksCome, CborStringComes, before_span}
use Rattle.sm_cbor.specs.steps.Rest.{ArgumentComes, CborRest, CborLeads, first_state}
use Rattle.sm_cbor.specs.steps.Machine.{Begun}
use Rattle.sm_cbor.specs.declared.head.Head.{Head}
use Rattle.sm_cbor.specs.declared.head.Head.TheVariants.{Argument as ArgumentHead, Chunks as ChunksHead, List as EntriesHead}
use Rattle.sm_cbor.specs.declared.head.Head.TheVariants.{Map as PairsHead, Null as NullHead, Bool as BoolHead, NoItem}
use Rattle.sm_cbor.specs.declared.place.StringKind.{StringKind}
use Rattle.sm_cbor.specs.declared.place.StringKind.TheVariants.{Bytes, Text, Key as KeyText}
use Rattle.sm_cbor.specs.declared.place.Span.{Span}
use Rattle.sm_cbor.specs.declared.place.Span.TheVariants.{Whole, Chunk}
use Rattle.sm_cbor.specs.declared.place.Subject.{Subject}
use Rattle.sm_cbor.specs.declared.place.Subject.TheVariants.{Unsigned, Negative, String as StringHead, List as ListHead, Map as MapHead}
use Rattle.sm_cbor.specs.declared.place.Subject.TheVariants.{Tag as TagHead, Opaque}
use Rattle.sm_cbor.specs.declared.place.Level.{Level}
use Rattle.sm_cbor.specs.declared.place.Level.TheVariants.{Tag, List as AList, ListToBreak as AListToBreak, Map as AMap}
use Rattle.sm_cbor.specs.declared.place.Level.TheVariants.{MapToBreak as AMapToBreak}
use Rattle.sm_cbor.specs.declared.place.CborPlace.{CborPlace}
use Rattle.sm_cbor.specs.declared.place.CborPlace.TheVariants.{Item, Key, After, Argument as InArgument, String, Chunks}
use Rattle.sm_cbor.proofs.Arguments.{argument_starts, number_byte}
use Rattle.sm_cbor.proofs.Items.{at, HeadComes, initial_byte, argument_leads, chunks_lead, list_leads, map_leads, null_leads, bool_leads}
use Rattle.sm_cbor.proofs.Items.{item_stops}
use Rattle.sm_cbor.proofs.KeySteps.{key_leads, key_chunks_lead}
use Rattle.sm_cbor.proofs.LevelSteps.{tag_ends, list_ends, map_ends, entry_leads, pair_leads, more_entries, more_pairs, list_breaks}
use Rattle.sm_cbor.proofs.LevelSteps.{map_breaks, entry_goes_on, pair_goes_on, break_is_no_item, no_break_key}
use Rattle.sm_cbor.proofs.StringSteps.{IsText, bytes_run, text_byte, bytes_end, text_end, key_end, chunk_end, break_leads, chunk_leads}
use Rattle.sm_cbor.proofs.ArgumentSteps.{argument_byte, ended_onward, unsigned_ends, negative_ends, string_begins, list_opens, map_opens}
use Rattle.sm_cbor.proofs.ArgumentSteps.{tag_opens, opaque_ends}
use Rattle.sm_cbor.proofs.RunSteps.{none_owed}
use Rattle.sm_cbor.proofs.Readings.{leads_none, leads_joined}
use Rattle.sm_cbor.proofs.Completing.{complete_leads}
use Rattle.sm_cbor.proofs.Timings.{times_texts}

-- byte strings are between two characters always
abbrev IsSettled : CborPlace → Type 0
IsSettled Item = Unit {0}
IsSettled Key = Unit {0}
IsSettled After = Unit {0}
IsSettled (InArgument j k v) = Unit {0}
IsSettled (String Bytes span n place) = place ≡ Between
IsSettled (String Text span n place) = Unit {0}
IsSettled (String KeyText span n place) = Unit {0}
IsSettled (Chunks kind) = Unit {0}

abbrev StandsBetween : CborState → Type 0
StandsBetween x = Begun x.place x.levels × IsSettled x.place

-- the bytes lead on to such a state
abbrev Advances : ℕ → CborState → List ℕ → Type 0
Advances limit x v = (out : List NodeEvent) × (y : CborState) × CborLeads plain limit x v out y × StandsBetween y

stays : (limit : ℕ) (x : CborState) → StandsBetween x → Advances limit x []
stays limit x stands = ([], x, leads_none plain limit x, stands)

-- a step, and from what then may come on
go : (limit : ℕ) (x y : CborState) (v : List ℕ) (out : List NodeEvent) (s : List ℕ) (es : List TimedEvent) → CborLeads plain limit x v out y
    → CborRest plain limit x (v ++ s) es → ((fs : List TimedEvent) → CborRest plain limit y s fs → Advances limit y []) → Advances limit x v
go limit x y v out s es h rest next =
    let (os, fs, e, hands, rest1) = h.onward s es rest in
    let (more, z, g, stands) = next fs rest1 in (
      out ++ more,
      z,
      subst (λ u. CborLeads plain limit x u (out ++ more) z) (append-nil v) (leads_joined plain limit x y z v [] out more h g),
      stands,
    )

-- behind an item
settles : (limit : ℕ) (t : List ℕ) (ls : List Level) (s : List ℕ) (es : List TimedEvent) → CborEnds plain limit ls s es
    → Advances limit (at After t ls) []
settles limit t [] s es h = stays limit (at After t []) (tt, tt)
settles limit t (Tag ∷ ls) s es h =
    go limit (at After t (Tag ∷ ls)) (at After t ls) [] [] s es (tag_ends plain limit t t ls) h (λ fs g. settles limit t ls s fs g)
settles limit t (AList zero ∷ ls) s es h =
    let (ns, r, us, entries, room, en) = h in
    go limit (at After t (AList 0 ∷ ls)) (at After t ls) [] _ s es (list_ends plain limit t t ls (omega arith)) h
    (λ fs g. settles limit t ls s fs g)
settles limit t (AList (suc n) ∷ ls) s es h =
    go limit (at After t (AList (suc n) ∷ ls)) (at Item t (AList (suc n - 1) ∷ ls)) [] [] s es
    (entry_leads plain limit (suc n) t t ls (omega arith)) h (λ fs g. stays limit (at Item t (AList (suc n - 1) ∷ ls)) (tt, tt))
settles limit t (AListToBreak ∷ ls) s es h = stays limit (at After t (AListToBreak ∷ ls)) (tt, tt)
settles limit t (AMap zero ∷ ls) s es h =
    let (ms, r, us, pairs, room, en) = h in
    go limit (at After t (AMap 0 ∷ ls)) (at After t ls) [] _ s es (map_ends plain limit t t ls (omega arith)) h
    (λ fs g. settles limit t ls s fs g)
settles limit t (AMap (suc n) ∷ ls) s es h =
    go limit (at After t (AMap (suc n) ∷ ls)) (at Key t (AMap (suc n - 1) ∷ ls)) [] [] s es
    (pair_leads plain limit (suc n) t t ls (omega arith)) h (λ fs g. stays limit (at Key t (AMap (suc n - 1) ∷ ls)) (tt, tt))
settles limit t (AMapToBreak ∷ ls) s es h = stays limit (at After t (AMapToBreak ∷ ls)) (tt, tt)

-- behind the last byte of a string, and where one begins or goes on
string_settles : (limit : ℕ) (kind : StringKind) (t : List ℕ) (ls : List Level) (s : List ℕ) (es : List TimedEvent)
    → CborStringComes plain limit kind Whole 0 Between t ls s es → Advances limit (at (String kind Whole 0 Between) t ls) []
string_settles limit Bytes t ls s es h =
    go limit (at (String Bytes Whole 0 Between) t ls) (at After t ls) [] _ s es (bytes_end plain limit t t ls) h
    (λ fs g. settles limit t ls s fs g)
string_settles limit Text t ls s es h =
    go limit (at (String Text Whole 0 Between) t ls) (at After t ls) [] _ s es (text_end plain limit t t ls) h
    (λ fs g. settles limit t ls s fs g)
string_settles limit KeyText t ls s es h =
    go limit (at (String KeyText Whole 0 Between) t ls) (at Item t ls) [] _ s es (key_end plain limit t t ls) h
    (λ fs g. stays limit (at Item t ls) (tt, tt))

span_settles : (limit : ℕ) (kind : StringKind) (span : Span) (t : List ℕ) (ls : List Level) (s : List ℕ) (es : List TimedEvent)
    → CborStringComes plain limit kind span 0 Between t ls s es → Advances limit (at (String kind span 0 Between) t ls) []
span_settles limit kind Whole t ls s es h = string_settles limit kind t ls s es h
span_settles limit kind Chunk t ls s es h =
    go limit (at (String kind Chunk 0 Between) t ls) (at (Chunks kind) t ls) [] [] s es (chunk_end plain limit kind t ls) h
    (λ fs g. stays limit (at (Chunks kind) t ls) (tt, tt))

between : (kind : StringKind) (span : Span) (n : ℕ) → IsSettled (String kind span n Between)
between Bytes span n = refl
between Text span n = tt
between KeyText span n = tt

string_begins_on : (limit n : ℕ) (kind : StringKind) (span : Span) (t : List ℕ) (ls : List Level) (s : List ℕ) (es : List TimedEvent)
    → CborStringComes plain limit kind span n Between t ls s es → Advances limit (at (String kind span n Between) t ls) []
string_begins_on limit zero kind span t ls s es h = span_settles limit kind span t ls s es h
string_begins_on limit (suc n) kind span t ls s es h =
    stays limit (at (String kind span (suc n) Between) t ls) (omega arith, between kind span (suc n))

-- behind the last byte of an argument, and where one begins or goes on
argument_settles : (limit : ℕ) (j : Subject) (n : ℕ) (t : List ℕ) (ls : List Level) (s : List ℕ) (es : List TimedEvent)
    → ArgumentComes plain limit j 0 n t ls s es → Advances limit (at (InArgument j 0 n) t ls) []
argument_settles limit Unsigned n t ls s es h =
    go limit (at (InArgument Unsigned 0 n) t ls) (at After t ls) [] _ s es (unsigned_ends plain limit n t t ls) h
    (λ fs g. settles limit t ls s fs g)
argument_settles limit Negative n t ls s es h =
    go limit (at (InArgument Negative 0 n) t ls) (at After t ls) [] _ s es (negative_ends plain limit n t t ls) h
    (λ fs g. settles limit t ls s fs g)
argument_settles limit (StringHead kind span) n t ls s es h =
    go limit (at (InArgument (StringHead kind span) 0 n) t ls) (at (String kind span n Between) (before_span span t) ls) [] [] s es
    (string_begins plain limit n kind span t ls) h (λ fs g. string_begins_on limit n kind span (before_span span t) ls s fs g)
argument_settles limit ListHead n t ls s es h =
    go limit (at (InArgument ListHead 0 n) t ls) (at After t (AList n ∷ ls)) [] _ s es (list_opens plain limit n t t ls) h
    (λ fs g. settles limit t (AList n ∷ ls) s fs g)
argument_settles limit MapHead n t ls s es h =
    go limit (at (InArgument MapHead 0 n) t ls) (at After t (AMap n ∷ ls)) [] _ s es (map_opens plain limit n t t ls) h
    (λ fs g. settles limit t (AMap n ∷ ls) s fs g)
argument_settles limit TagHead n t ls s es h =
    go limit (at (InArgument TagHead 0 n) t ls) (at Item t (Tag ∷ ls)) [] _ s es (tag_opens plain limit n t t ls) h
    (λ fs g. stays limit (at Item t (Tag ∷ ls)) (tt, tt))
argument_settles limit (Opaque b) n t ls s es h =
    let (fs1, is, en, e) = ended_onward plain limit (Opaque b) n t ls s es h in
    go limit (at (InArgument (Opaque b) 0 n) t ls) (at After t ls) [] _ s es (opaque_ends plain limit b n t t ls is) h
    (λ fs g. settles limit t ls s fs g)

argument_begins_on : (limit : ℕ) (j : Subject) (k v : ℕ) (t : List ℕ) (ls : List Level) (s : List ℕ) (es : List TimedEvent)
    → ArgumentComes plain limit j k v t ls s es → Advances limit (at (InArgument j k v) t ls) []
argument_begins_on limit j zero v t ls s es h = argument_settles limit j v t ls s es h
argument_begins_on limit j (suc k) v t ls s es h = stays limit (at (InArgument j (suc k) v) t ls) (omega arith, tt)

-- a byte at each place
head_advances : (limit c : ℕ) (h : Head) (t : List ℕ) (ls : List Level) (s : List ℕ) (es : List TimedEvent) → HeadIs c h
    → ItemComes plain limit ls (c ∷ s) es → HeadComes plain limit h t ls s es → Advances limit (at Item t ls) (c ∷ [])
head_advances limit c (ArgumentHead j k v) t ls s es is item comes =
    let (n, r, us, timed, room, en) = item in
    go limit (at Item t ls) (at (InArgument j k v) t ls) (c ∷ []) [] s es (argument_leads plain limit c k v j t ls (omega arith) is) item
    (λ fs g. argument_begins_on limit j k v t ls s fs g)
head_advances limit c (ChunksHead kind) t ls s es is item comes =
    let (n, r, us, timed, room, en) = item in
    go limit (at Item t ls) (at (Chunks kind) [] ls) (c ∷ []) [] s es (chunks_lead plain limit c kind t ls (omega arith) is) item
    (λ fs g. stays limit (at (Chunks kind) [] ls) (tt, tt))
head_advances limit c EntriesHead t ls s es is item comes =
    let (n, r, us, timed, room, en) = item in
    go limit (at Item t ls) (at After t (AListToBreak ∷ ls)) (c ∷ []) _ s es (list_leads plain limit c t t ls (omega arith) is) item
    (λ fs g. stays limit (at After t (AListToBreak ∷ ls)) (tt, tt))
head_advances limit c PairsHead t ls s es is item comes =
    let (n, r, us, timed, room, en) = item in
    go limit (at Item t ls) (at After t (AMapToBreak ∷ ls)) (c ∷ []) _ s es (map_leads plain limit c t t ls (omega arith) is) item
    (λ fs g. stays limit (at After t (AMapToBreak ∷ ls)) (tt, tt))
head_advances limit c NullHead t ls s es is item comes =
    let (n, r, us, timed, room, en) = item in
    go limit (at Item t ls) (at After t ls) (c ∷ []) _ s es (null_leads plain limit c t t ls (omega arith) is) item
    (λ fs g. settles limit t ls s fs g)
head_advances limit c (BoolHead b) t ls s es is item comes =
    let (n, r, us, timed, room, en) = item in
    go limit (at Item t ls) (at After t ls) (c ∷ []) _ s es (bool_leads plain limit c b t t ls (omega arith) is) item
    (λ fs g. settles limit t ls s fs g)
head_advances limit c NoItem t ls s es is item comes = absurd comes

item_advances : (limit c : ℕ) (t : List ℕ) (ls : List Level) (s : List ℕ) (es : List TimedEvent) → ItemComes plain limit ls (c ∷ s) es
    → Advances limit (at Item t ls) (c ∷ [])
item_advances limit c t ls s es item =
    let (h, is, comes) = initial_byte plain limit c t ls s es item in head_advances limit c h t ls s es is item comes

key_advances : (limit c : ℕ) (t : List ℕ) (ls : List Level) (s : List ℕ) (es : List TimedEvent) (u s1 : List ℕ)
    → TextString u (c ∷ s) s1 → CborKeyComes plain limit ls (c ∷ s) es → Advances limit (at Key t ls) (c ∷ [])
key_advances limit c t ls s es u s1 (inl (s0, head, split, utf8)) key =
    let (k, v, starts, digits) = argument_starts (c % 32) (length u) s s0 head.1 in
    go limit (at Key t ls) (at (InArgument (StringHead KeyText Whole) k v) t ls) (c ∷ []) [] s es
    (key_leads plain limit c k v t ls head.0 starts) key (λ fs g. argument_begins_on limit (StringHead KeyText Whole) k v t ls s fs g)
key_advances limit c t ls s es u s1 (inr (s0, us, first, chunks, joined)) key =
    go limit (at Key t ls) (at (Chunks KeyText) [] ls) (c ∷ []) [] s es (key_chunks_lead plain limit c t ls first.0) key
    (λ fs g. stays limit (at (Chunks KeyText) [] ls) (tt, tt))

after_advances : (limit c : ℕ) (t : List ℕ) (ls : List Level) (s : List ℕ) (es : List TimedEvent) → Begun After ls
    → CborEnds plain limit ls (c ∷ s) es → Advances limit (at After t ls) (c ∷ [])
after_advances limit c t [] s es begun h = absurd (let f = ap length h.0 in omega arith)
after_advances limit c t (Tag ∷ ls) s es begun h = absurd begun
after_advances limit c t (AList n ∷ ls) s es begun h = absurd begun
after_advances limit c t (AListToBreak ∷ ls) s es begun h =
    let (ns, r, us, entries, room, en) = h in
    elim (more_entries plain limit c ls s es h) [
      | inl b ↦ go limit (at After t (AListToBreak ∷ ls)) (at After t ls) (c ∷ []) _ s es
          (list_breaks plain limit c t t ls (omega arith) b.0) h (λ fs g. settles limit t ls s fs g)
      | inr item ↦
          let other : c ≢ 0xFF = λ is. item_stops plain limit c t (AListToBreak ∷ ls)
          (subst (λ x. HeadIs x NoItem) (sym is) break_is_no_item) s es
          item in
          let (out, y, leads, stands) = item_advances limit c t (AListToBreak ∷ ls) s es item in
          (out, y, entry_goes_on plain limit c t ls out y other leads, stands)
    ]
after_advances limit c t (AMap n ∷ ls) s es begun h = absurd begun
after_advances limit c t (AMapToBreak ∷ ls) s es begun h =
    let (ms, r, us, pairs, room, en) = h in
    elim (more_pairs plain limit c ls s es h) [
      | inl b ↦ go limit (at After t (AMapToBreak ∷ ls)) (at After t ls) (c ∷ []) _ s es
          (map_breaks plain limit c t t ls (omega arith) b.0) h (λ fs g. settles limit t ls s fs g)
      | inr key ↦
          let other : c ≢ 0xFF = λ is. no_break_key plain limit c (AMapToBreak ∷ ls) s es is key in
          let (u, s1, fs, text, item, e) = key in
          let (out, y, leads, stands) = key_advances limit c t (AMapToBreak ∷ ls) s es u s1 text key in
          (out, y, pair_goes_on plain limit c t ls out y other leads, stands)
    ]

argument_advances : (limit c : ℕ) (j : Subject) (k v : ℕ) (t : List ℕ) (ls : List Level) (s : List ℕ) (es : List TimedEvent) → 0 < k
    → ArgumentComes plain limit j k v t ls (c ∷ s) es → Advances limit (at (InArgument j k v) t ls) (c ∷ [])
argument_advances limit c j k v t ls s es some h =
    let (n, r, digits, ended) = h in
    go limit (at (InArgument j k v) t ls) (at (InArgument j (k - 1) (v * 256 + c)) t ls) (c ∷ []) [] s es
    (argument_byte plain limit j k v c t ls some (number_byte k v n c s r some digits).0) h
    (λ fs g. argument_begins_on limit j (k - 1) (v * 256 + c) t ls s fs g)

-- a character of a text ends, or goes on
text_goes_on : (limit n : ℕ) (kind : StringKind) (span : Span) (place : Utf8) (t : List ℕ) (ls : List Level) (s : List ℕ)
    (es : List TimedEvent)
    → IsText kind → utf8.owed place ≤ n → CborStringComes plain limit kind span n place t ls s es
    → Advances limit (at (String kind span n place) t ls) []
text_goes_on limit zero kind span place t ls s es is owes h =
    let whole : place ≡ Between = none_owed place 0 refl owes in
    subst (λ p. Advances limit (at (String kind span 0 p) t ls) []) (sym whole)
    (span_settles limit kind span t ls s es (subst (λ p. CborStringComes plain limit kind span 0 p t ls s es) whole h))
text_goes_on limit (suc n) Bytes span place t ls s es is owes h = absurd is
text_goes_on limit (suc n) Text span place t ls s es is owes h = stays limit (at (String Text span (suc n) place) t ls) (omega arith, tt)
text_goes_on limit (suc n) KeyText span place t ls s es is owes h = stays limit (at (String KeyText span (suc n) place) t ls)
    (omega arith, tt)

text_advances : (limit c n : ℕ) (kind : StringKind) (span : Span) (place : Utf8) (t : List ℕ) (ls : List Level) (s : List ℕ)
    (es : List TimedEvent) (u : List ℕ) (o : Option Utf8)
    → IsText kind → 0 < n → length u + 1 ≡ n → utf8.Rest place (c ∷ u) → utf8.step place c ≡ o
    → CborStringComes plain limit kind span n place t ls (c ∷ s) es → Advances limit (at (String kind span n place) t ls) (c ∷ [])
text_advances limit c n kind span place t ls s es u None is some len rest step h = absurd (no_rest place c u step rest)
text_advances limit c n kind span place t ls s es u (Some q) is some len rest step h =
    let fits = rest_fits u q (sym (over place q c u step) ∙ rest) in
    go limit (at (String kind span n place) t ls) (at (String kind span (n - 1) q) (t ++ c ∷ []) ls) (c ∷ []) [] s es
    (text_byte plain limit kind span n place q t c ls is some step) h
    (λ fs g. text_goes_on limit (n - 1) kind span q (t ++ c ∷ []) ls s fs is (omega arith) g)

string_advances : (limit c n : ℕ) (kind : StringKind) (span : Span) (place : Utf8) (t : List ℕ) (ls : List Level) (s : List ℕ)
    (es : List TimedEvent) → 0 < n → IsSettled (String kind span n place)
    → CborStringComes plain limit kind span n place t ls (c ∷ s) es → Advances limit (at (String kind span n place) t ls) (c ∷ [])
string_advances limit c n kind span place t ls s es some settled ([], r, split, len, ends, more) = absurd (omega arith)
string_advances limit c n Bytes span place t ls s es some settled (d ∷ u, r, split, len, ends, more) =
    let first : d ≡ c = cc in
    let h : CborStringComes plain limit Bytes span n place t ls (c ∷ s) es = (d ∷ u, r, split, len, ends, more) in
    subst (λ p. Advances limit (at (String Bytes span n p) t ls) (c ∷ [])) (sym settled)
    (go limit (at (String Bytes span n Between) t ls) (at (String Bytes span (n - 1) Between) (t ++ c ∷ []) ls) (c ∷ []) [] s es
    (bytes_run plain limit span n Between t (c ∷ []) ls some (subst (λ x. x < 256) first ends.0, tt))
    (subst (λ p. CborStringComes plain limit Bytes span n p t ls (c ∷ s) es) settled h)
    (λ fs g. string_begins_on limit (n - 1) Bytes span (t ++ c ∷ []) ls s fs g))
string_advances limit c n Text span place t ls s es some settled (d ∷ u, r, split, len, ends, more) =
    let first : d ≡ c = cc in
    text_advances limit c n Text span place t ls s es u (utf8.step place c) tt some (omega arith)
    (subst (λ x. utf8.Rest place (x ∷ u)) first ends) refl (d ∷ u, r, split, len, ends, more)
string_advances limit c n KeyText span place t ls s es some settled (d ∷ u, r, split, len, ends, more) =
    let first : d ≡ c = cc in
    text_advances limit c n KeyText span place t ls s es u (utf8.step place c) tt some (omega arith)
    (subst (λ x. utf8.Rest place (x ∷ u)) first ends) refl (d ∷ u, r, split, len, ends, more)

chunks_advance : (limit c : ℕ) (kind : StringKind) (t : List ℕ) (ls : List Level) (s : List ℕ) (es : List TimedEvent)
    → ChunksCome plain limit kind t ls (c ∷ s) es → Advances limit (at (Chunks kind) t ls) (c ∷ [])
chunks_advance limit c kind t ls s es ([], r, h, more) =
    go limit (at (Chunks kind) t ls) (at (String kind Whole 0 Between) t ls) (c ∷ []) [] s es (break_leads plain limit c kind t ls h.0)
    ([], r, h, more) (λ fs g. string_settles limit kind t ls s fs g)
chunks_advance limit c kind t ls s es (u ∷ us, r, (s2, (s1, head, e, are), chunks), more) =
    let (k, v, starts, digits) = argument_starts (c % 32) (length u) s s1 head.1 in
    go limit (at (Chunks kind) t ls) (at (InArgument (StringHead kind Chunk) k v) t ls) (c ∷ []) [] s es
    (chunk_leads plain limit c k v kind t ls head.0 starts) (u ∷ us, r, (s2, (s1, head, e, are), chunks), more)
    (λ fs g. argument_begins_on limit (StringHead kind Chunk) k v t ls s fs g)

advances : (limit c : ℕ) (p : CborPlace) (t : List ℕ) (ls : List Level) (s : List ℕ) (es : List TimedEvent) → StandsBetween (at p t ls)
    → CborRest plain limit (at p t ls) (c ∷ s) es → Advances limit (at p t ls) (c ∷ [])
advances limit c Item t ls s es stands h = item_advances limit c t ls s es h
advances limit c Key t ls s es stands h = let (u, s1, fs, text, item, e) = h in key_advances limit c t ls s es u s1 text h
advances limit c After t ls s es stands h = after_advances limit c t ls s es stands.0 h
advances limit c (InArgument j k v) t ls s es stands h = argument_advances limit c j k v t ls s es stands.0 h
advances limit c (String kind span n place) t ls s es stands h =
    string_advances limit c n kind span place t ls s es stands.0 stands.1 h
advances limit c (Chunks kind) t ls s es stands h = chunks_advance limit c kind t ls s es h

-- so all of the bytes lead on
runs : (limit : ℕ) (x : CborState) (bs more : List ℕ) (es : List TimedEvent) → StandsBetween x → CborRest plain limit x (bs ++ more) es
    → Advances limit x bs
runs limit x [] more es stands h = stays limit x stands
runs limit x (c ∷ bs) more es stands h =
    let (out, y, leads, there) = advances limit c x.place x.held x.levels (bs ++ more) es stands h in
    let (os, fs, e, hands, rest) = leads.onward (bs ++ more) es h in
    let (further, z, on, last) = runs limit y bs more fs there rest in
    (out ++ further, z, leads_joined plain limit x y z (c ∷ []) bs out further leads on, last)

pub has_one_completion : HasOneCompletion cbor_timing
has_one_completion bs es fs (more, n, ts, timed, deep, is) other =
    let (out, y, leads, stands) = runs most_levels first_state bs more ts (tt, tt) (n, [], [], timed, omega arith, (refl, refl)) in
    complete_leads bs out es y leads stands.0 (more, n, ts, timed, deep, is) ∙ sym (complete_leads bs out fs y leads stands.0 other)

pub goes_further : GoesFurther cbor_timing
goes_further bs more es fs first (behind, n, ts, timed, deep, is) =
    let start : CborRest plain most_levels first_state ((bs ++ more) ++ behind) ts = (n, [], [], timed, omega arith, (refl, refl)) in
    let whole = subst (λ q. CborRest plain most_levels first_state q ts) (append_assoc bs more behind) start in
    let (out, y, leads, stands) = runs most_levels first_state bs (more ++ behind) ts (tt, tt) whole in
    let (os, us, e, hands, rest) = leads.onward (more ++ behind) ts whole in
    let (further, z, on, last) = runs most_levels y more behind us stands rest in
    let all = leads_joined plain most_levels first_state y z bs more out further leads on in (
      further,
      complete_leads (bs ++ more) (out ++ further) fs z all last.0 (behind, n, ts, timed, deep, is)
          ∙ ap (λ x. x ++ further) (sym (complete_leads bs out es y leads stands.0 first)),
    )

-- what they complete begins a stream of the item's tree
pub begins_trees : BeginsTrees cbor_timing
begins_trees bs es (more, n, ts, timed, deep, is) =
    let start : CborRest plain most_levels first_state (bs ++ more) ts = (n, [], [], timed, omega arith, (refl, refl)) in
    let (out, y, leads, stands) = runs most_levels first_state bs more ts (tt, tt) start in
    let (os, us, e, hands, rest) = leads.onward more ts start in
    let same = complete_leads bs out es y leads stands.0 (more, n, ts, timed, deep, is) in
    let all = ap untimed e ∙ handed_untimed (length more) os us out hands ∙ ap (λ x. x ++ untimed us) (sym same) in
    (n, untimed us, subst (λ x. Streams n x []) all (times_texts.streams n (bs ++ more) ts timed), deep)
