-- What the bytes of an argument leave to come, and what comes behind its last byte.
use Rattle.std.proofs.Common.{◌≡◌, ℕ, pos, negsuc, ◌+◌, ◌-◌, ◌*◌, ◌%◌, ◌≤◌, ◌<◌, ◌⊎◌, inl, inr, List, [], ◌∷◌, Some, refl, sym, subst}
use Rattle.std.proofs.Common.{arith, length}
use Rattle.sm_tree.specs.Events.{tag_event, opaque_event, start_list, start_object}
use Rattle.sm_tree.specs.Timing.{TimedEvent, by_byte}
use Rattle.sm_bytes.specs.declared.utf8.Utf8.TheVariants.{Between}
use Rattle.sm_cbor.specs.CborItem.{IsOpaque}
use Rattle.sm_cbor.specs.steps.Marks.{Keys}
use Rattle.sm_cbor.specs.steps.Reading.{integer_event}
use Rattle.sm_cbor.specs.steps.Rest.{ArgumentEnded, ArgumentComes, before_span, CborLeads, CborStops}
use Rattle.sm_cbor.specs.declared.place.StringKind.{StringKind}
use Rattle.sm_cbor.specs.declared.place.Span.{Span}
use Rattle.sm_cbor.specs.declared.place.Subject.{Subject}
use Rattle.sm_cbor.specs.declared.place.Subject.TheVariants.{Unsigned, Negative, String as StringHead, List as ListHead, Map as MapHead}
use Rattle.sm_cbor.specs.declared.place.Subject.TheVariants.{Tag as TagHead, Opaque}
use Rattle.sm_cbor.specs.declared.place.Level.{Level}
use Rattle.sm_cbor.specs.declared.place.Level.TheVariants.{Tag, List as AList, Map as AMap}
use Rattle.sm_cbor.specs.declared.place.CborPlace.TheVariants.{Item, After, Argument as InArgument, String}
use Rattle.sm_cbor.proofs.Arguments.{number_byte, number_more, number_owed}
use Rattle.sm_cbor.proofs.Items.{at}
use Rattle.sm_cbor.proofs.Readings.{leads_silent, leads_one}

-- a byte of it
pub argument_byte : (w : Keys) (limit : ℕ) (j : Subject) (k v b : ℕ) (t : List ℕ) (ls : List Level) → 0 < k → b < 256
    → CborLeads w limit (at (InArgument j k v) t ls) (b ∷ []) [] (at (InArgument j (k - 1) (v * 256 + b)) t ls)
argument_byte w limit j k v b t ls some small = leads_silent
    (λ s es h. let (n, r, more, ended) = h in (n, r, (number_byte k v n b s r some more).1, ended))
    (λ s fs h. let (n, r, more, ended) = h in (n, r, number_more k v n b s r some small more, ended))

-- a byte of a simple value that has none
pub simple_stops : (w : Keys) (limit b c : ℕ) (t : List ℕ) (ls : List Level) → b % 32 ≡ 24 → c < 32
    → CborStops w limit (at (InArgument (Opaque b) 1 0) t ls) c
simple_stops w limit b c t ls info small s es (n, r, more, (fs, inl low, en, e)) = omega arith
simple_stops w limit b c t ls info small s es (n, r, more, (fs, inr (inl (same, big)), en, e)) = let is : n ≡ 0 * 256 + c = more.1.0 in
    omega arith
simple_stops w limit b c t ls info small s es (n, r, more, (fs, inr (inr high), en, e)) = omega arith

-- no mark in it, and no end
pub argument_no_mark : (w : Keys) (limit : ℕ) (j : Subject) (k v : ℕ) (t : List ℕ) (ls : List Level) → 0 < k
    → CborStops w limit (at (InArgument j k v) t ls) 256
argument_no_mark w limit j k v t ls some s es (n, r, more, ended) = let small = (number_byte k v n 256 s r some more).0 in omega arith

pub argument_owed : (w : Keys) (limit : ℕ) (j : Subject) (k v : ℕ) (t : List ℕ) (ls : List Level) (es : List TimedEvent) → 0 < k
    → ArgumentComes w limit j k v t ls [] es → ⊥
argument_owed w limit j k v t ls es some (n, r, more, ended) = number_owed k v n r some more

-- behind its last byte
pub ended_onward : (w : Keys) (limit : ℕ) (j : Subject) (v : ℕ) (t : List ℕ) (ls : List Level) (s : List ℕ) (es : List TimedEvent)
    → ArgumentComes w limit j 0 v t ls s es → ArgumentEnded w limit j v t ls s es
ended_onward w limit j v t ls s es (n, r, (e, f), h) =
    subst (λ x. ArgumentEnded w limit j v t ls x es) (sym f) (subst (λ x. ArgumentEnded w limit j x t ls r es) e h)

ended_back : (w : Keys) (limit : ℕ) (j : Subject) (v : ℕ) (t : List ℕ) (ls : List Level) (s : List ℕ) (es : List TimedEvent)
    → ArgumentEnded w limit j v t ls s es → ArgumentComes w limit j 0 v t ls s es
ended_back w limit j v t ls s es h = (v, s, (refl, refl), h)

pub unsigned_ends : (w : Keys) (limit n : ℕ) (t u : List ℕ) (ls : List Level)
    → CborLeads w limit (at (InArgument Unsigned 0 n) t ls) [] (integer_event n (pos n) ∷ []) (at After u ls)
unsigned_ends w limit n t u ls = leads_one (integer_event n (pos n)) (λ s es h. ended_onward w limit Unsigned n t ls s es h)
    (λ s fs h. ended_back w limit Unsigned n t ls s (by_byte (integer_event n (pos n)) (length s) ∷ fs) (fs, h, refl))

pub negative_ends : (w : Keys) (limit n : ℕ) (t u : List ℕ) (ls : List Level)
    → CborLeads w limit (at (InArgument Negative 0 n) t ls) [] (integer_event n (negsuc n) ∷ []) (at After u ls)
negative_ends w limit n t u ls = leads_one (integer_event n (negsuc n)) (λ s es h. ended_onward w limit Negative n t ls s es h)
    (λ s fs h. ended_back w limit Negative n t ls s (by_byte (integer_event n (negsuc n)) (length s) ∷ fs) (fs, h, refl))

pub string_begins : (w : Keys) (limit n : ℕ) (kind : StringKind) (span : Span) (t : List ℕ) (ls : List Level)
    → CborLeads w limit (at (InArgument (StringHead kind span) 0 n) t ls) [] [] (at (String kind span n Between) (before_span span t) ls)
string_begins w limit n kind span t ls = leads_silent (λ s es h. ended_onward w limit (StringHead kind span) n t ls s es h)
    (λ s fs h. ended_back w limit (StringHead kind span) n t ls s fs h)

pub list_opens : (w : Keys) (limit n : ℕ) (t u : List ℕ) (ls : List Level)
    → CborLeads w limit (at (InArgument ListHead 0 n) t ls) [] (start_list (Some n) ∷ []) (at After u (AList n ∷ ls))
list_opens w limit n t u ls = leads_one (start_list (Some n)) (λ s es h. ended_onward w limit ListHead n t ls s es h)
    (λ s fs h. ended_back w limit ListHead n t ls s (by_byte (start_list (Some n)) (length s) ∷ fs) (fs, h, refl))

pub map_opens : (w : Keys) (limit n : ℕ) (t u : List ℕ) (ls : List Level)
    → CborLeads w limit (at (InArgument MapHead 0 n) t ls) [] (start_object (Some n) ∷ []) (at After u (AMap n ∷ ls))
map_opens w limit n t u ls = leads_one (start_object (Some n)) (λ s es h. ended_onward w limit MapHead n t ls s es h)
    (λ s fs h. ended_back w limit MapHead n t ls s (by_byte (start_object (Some n)) (length s) ∷ fs) (fs, h, refl))

pub tag_opens : (w : Keys) (limit n : ℕ) (t u : List ℕ) (ls : List Level)
    → CborLeads w limit (at (InArgument TagHead 0 n) t ls) [] (tag_event n ∷ []) (at Item u (Tag ∷ ls))
tag_opens w limit n t u ls = leads_one (tag_event n) (λ s es h. ended_onward w limit TagHead n t ls s es h)
    (λ s fs h. ended_back w limit TagHead n t ls s (by_byte (tag_event n) (length s) ∷ fs) (fs, h, refl))

pub opaque_ends : (w : Keys) (limit b n : ℕ) (t u : List ℕ) (ls : List Level) → IsOpaque (b % 32) n
    → CborLeads w limit (at (InArgument (Opaque b) 0 n) t ls) [] (opaque_event b ∷ []) (at After u ls)
opaque_ends w limit b n t u ls is = leads_one (opaque_event b)
    (λ s es h. let (fs, opq, en, e) = ended_onward w limit (Opaque b) n t ls s es h in (fs, en, e))
    (λ s fs h. ended_back w limit (Opaque b) n t ls s (by_byte (opaque_event b) (length s) ∷ fs) (fs, is, h, refl))

-- an opener needs a level
pub no_room : (w : Keys) (limit : ℕ) (j : Subject) (k v : ℕ) (t : List ℕ) (ls : List Level) (s : List ℕ) (es : List TimedEvent)
    → limit ≤ length ls
    → ((j ≡ ListHead) ⊎ ((j ≡ MapHead) ⊎ (j ≡ TagHead))) → ArgumentComes w limit j k v t ls s es → ⊥
no_room w limit j k v t ls s es deep (inl e) (n, r, more, ended) =
    let (gs, (ns, q, fs, h, room, en), e2) = subst (λ x. ArgumentEnded w limit x n t ls r es) e ended in omega arith
no_room w limit j k v t ls s es deep (inr (inl e)) (n, r, more, ended) =
    let (gs, (ms, q, fs, h, room, en), e2) = subst (λ x. ArgumentEnded w limit x n t ls r es) e ended in omega arith
no_room w limit j k v t ls s es deep (inr (inr e)) (n, r, more, ended) =
    let (gs, (x, q, fs, h, room, en), e2) = subst (λ x. ArgumentEnded w limit x n t ls r es) e ended in omega arith
