-- One turn of the reader behind another, and where it ends.
use Rattle.std.proofs.Common.{Ok, Err, ◌≡◌, ℕ, ◌+◌, ◌-◌, ◌≤◌, ◌<◌, inl, inr, true, false, List, [], ◌∷◌, ◌++◌, refl, sym, ap, subst, ◌∙◌}
use Rattle.std.proofs.Common.{arith, length, take, drop, get_or, length-drop}
use Rattle.std.proofs.Math.Seq.{take-add}
use Rattle.std.proofs.lemmas.List.{drop_more, take_all}
use Rattle.sm_tree.proofs.ListEnds.{rest_of}
use Rattle.sm_tree.specs.Node.{Node, null, bool, int, number, text, bytes, tag, opaque, list, object, no_nodes, node, no_members, member}
use Rattle.sm_tree.specs.Timing.{TimedEvent}
use Rattle.sm_tree.specs.declared.refusal.SyntaxRefusal.{SyntaxRefusal}
use Rattle.sm_tree.specs.declared.refusal.SyntaxRefusal.TheVariants.{Bad, Ended, TooDeep, KeyKind, NoMemory}
use Rattle.sm_tree.specs.Streams.{StandsFor, Takes, TakesSame}
use Rattle.sm_tree.specs.ReaderClauses.{TakesBeside}
use Rattle.sm_tree.proofs.Handing.{takes_none, takes_both}
use Rattle.sm_cbor.specs.steps.Sinks.{Reached}
use Rattle.sm_cbor.proofs.Reaching.{reached_on}
use Rattle.sm_cbor.proofs.Verdicts.{lives}
use Rattle.sm_tree.specs.Limits.{most_levels}
use Rattle.sm_cbor.specs.CborItem.{Item as ItemBytes}
use Rattle.sm_cbor.specs.steps.Marks.{Keys, plain, key_of}
use Rattle.sm_cbor.specs.steps.Rest.{CborEnds, CborRest, CborRestAt}
use Rattle.sm_tree.specs.Refusal.{IsWithin, moved_by}
use Rattle.sm_cbor.specs.steps.Machine.{levels_of, cbor_state_of, Begun, BehindItem, IsSoundReader, CborGoes, CborTakesByte}
use Rattle.sm_cbor.specs.steps.Machine.{CborTakesPrefix, CborTakesAll, RefusesAt, IsPlaceOf, RefusesOneOf, StandsStill}
use Rattle.sm_cbor.specs.declared.place.Level.{Level}
use Rattle.sm_cbor.specs.declared.place.Level.TheVariants.{Tag, List as AList, ListToBreak as AListToBreak, Map as AMap}
use Rattle.sm_cbor.specs.declared.place.Level.TheVariants.{MapToBreak as AMapToBreak}
use Rattle.sm_cbor.specs.declared.place.CborPlace.{CborPlace}
use Rattle.sm_cbor.specs.declared.place.CborPlace.TheVariants.{Item, Key, After, Argument as InArgument, String, Chunks}
use Rattle.sm_cbor.specs.declared.read.Reader.{Reader}
use Rattle.sm_cbor.proofs.ArgumentSteps.{argument_owed}
use Rattle.sm_cbor.proofs.StringSteps.{string_owed, chunks_owed}
use Rattle.sm_cbor.proofs.KeySteps.{key_owed}
use Rattle.sm_cbor.proofs.Readings.{leads_none, leads_joined}
use Rattle.sm_cbor.proofs.Timings.{timed_item}

-- no bytes, and some behind others
pub goes_nowhere : (S : StandsFor) (r : Reader) → IsSoundReader r → CborGoes S r [] r.place [] S r
goes_nowhere S r sound =
    record { out = []; leads = λ w limit high. leads_none w limit (cbor_state_of r); taken = takes_none S; sound = sound }

pub goes_joined : (S M T : StandsFor) (r q x : Reader) (u v : List ℕ) → CborGoes S r [] r.place u M q → CborGoes M q [] q.place v T x
    → CborGoes S r [] r.place (u ++ v) T x
goes_joined S M T r q x u v h g = record {
  out = h.out ++ g.out;
  leads = λ w limit high. leads_joined w limit (cbor_state_of r) (cbor_state_of q) (cbor_state_of x) u v h.out g.out (h.leads w limit high)
      (g.leads w limit high);
  taken = takes_both S M T h.out g.out h.taken g.taken;
  sound = g.sound;
}

-- a turn
pub turn_goes : (S M T : StandsFor) (r q x : Reader) (bs : List ℕ) (i n : ℕ) → i ≤ length bs → CborGoes S r [] r.place (take i bs) M q
    → CborTakesPrefix M q (take (length bs - i) (drop i bs)) T x (Ok n)
    → (i + n ≤ length bs) × CborGoes S r [] r.place (take (i + n) bs) T x
turn_goes S M T r q x bs i n inside h (some, few, g) =
    let len = ap length (rest_of bs i) in
    let there = subst (λ v. CborGoes M q [] q.place (take n v) T x) (rest_of bs i) g in (
      omega (arith, few, len, length-drop i bs),
      subst (λ v. CborGoes S r [] r.place v T x) (sym (take-add i n bs))
          (goes_joined S M T r q x (take i bs) (take n (drop i bs)) h there),
    )

-- what the sink has reached between two turns
pub turn_reached : (S M : StandsFor) (r q : Reader) (bs : List ℕ) → Reached S (cbor_state_of r) → CborGoes S r [] r.place bs M q
    → Reached M (cbor_state_of q)
turn_reached S M r q bs reached goes =
    reached_on S M (cbor_state_of r) (cbor_state_of q) bs goes.out reached (goes.leads plain most_levels (omega arith))
    (lives q q.place goes.sound.there, goes.sound.there.room) goes.taken

-- a refusal
first_of : (bs : List ℕ) (i : ℕ) → i < length bs → get_or (take (length bs - i) (drop i bs)) 0 0 ≡ get_or bs i 0
first_of bs i inside = ap (λ v. get_or v 0 0) (rest_of bs i ∙ drop_more bs i 0 inside)

-- a sink that stands still behind a step
goes_still : (S M T : StandsFor) (r q : Reader) (v : List ℕ) → CborGoes S r [] r.place v M q → StandsStill M T
    → CborGoes S r [] r.place v T q
goes_still S M T r q v h still =
    record { out = h.out; leads = h.leads; taken = λ es stands begins. still (es ++ h.out) (h.taken es stands begins); sound = h.sound }

refused_here : (S M T : StandsFor) (r q : Reader) (bs : List ℕ) (i : ℕ) (refusal : SyntaxRefusal) → i < length bs
    → CborGoes S r [] r.place (take i bs) M q → StandsStill M T → RefusesAt (cbor_state_of q) (get_or bs i 0) refusal → IsPlaceOf i refusal
    → RefusesOneOf S r bs T refusal
refused_here S M T r q bs i refusal inside h still refuses is = (i, q, inside, goes_still S M T r q (take i bs) h still, refuses, is)

first_refused : (M T : StandsFor) (q x : Reader) (bs : List ℕ) (i : ℕ) (refusal : SyntaxRefusal) → i < length bs
    → CborTakesPrefix M q (take (length bs - i) (drop i bs)) T x (Err refusal) → CborTakesByte M q q.place (get_or bs i 0) T x (Err refusal)
first_refused M T q x bs i refusal inside g = subst (λ c. CborTakesByte M q q.place c T x (Err refusal)) (first_of bs i inside) g

pub turn_refused : (S M T : StandsFor) (r q x : Reader) (bs : List ℕ) (i : ℕ) (refusal : SyntaxRefusal) → i < length bs
    → CborGoes S r [] r.place (take i bs) M q → CborTakesPrefix M q (take (length bs - i) (drop i bs)) T x (Err refusal)
    → CborTakesAll S r bs T x (Err (moved_by i refusal))
turn_refused S M T r q x bs i (Bad n) inside h g =
    let (none, refuses, still) = first_refused M T q x bs i (Bad n) inside g in
    refused_here S M T r q bs i (moved_by i (Bad n)) inside h still refuses (omega (arith, none))
turn_refused S M T r q x bs i Ended inside h g = absurd (first_refused M T q x bs i Ended inside g)
turn_refused S M T r q x bs i (TooDeep n) inside h g =
    let (none, refuses, still) = first_refused M T q x bs i (TooDeep n) inside g in
    refused_here S M T r q bs i (moved_by i (TooDeep n)) inside h still refuses (omega (arith, none))
turn_refused S M T r q x bs i (KeyKind n) inside h g =
    let (none, refuses, still) = first_refused M T q x bs i (KeyKind n) inside g in
    refused_here S M T r q bs i (moved_by i (KeyKind n)) inside h still refuses (omega (arith, none))
turn_refused S M T r q x bs i NoMemory inside h g = tt

pub refusal_within : (M T : StandsFor) (q x : Reader) (c n : ℕ) (refusal : SyntaxRefusal) → 0 < n → CborTakesByte M q q.place c T x
    (Err refusal)
    → IsWithin n refusal
refusal_within M T q x c n (Bad i) some h = let e = h.0 in omega arith
refusal_within M T q x c n Ended some h = tt
refusal_within M T q x c n (TooDeep i) some h = let e = h.0 in omega arith
refusal_within M T q x c n (KeyKind i) some h = let e = h.0 in omega arith
refusal_within M T q x c n NoMemory some h = tt

pub whole_goes : (S T : StandsFor) (r q : Reader) (bs : List ℕ) (i : ℕ) → length bs ≤ i → CborGoes S r [] r.place (take i bs) T q
    → CborGoes S r [] r.place bs T q
whole_goes S T r q bs i all h = subst (λ v. CborGoes S r [] r.place v T q) (take_all i bs all) h

-- no item in no bytes
item_owed : (w : Keys) (n : Node) (r : List ℕ) → ItemBytes (key_of w) n [] r → ⊥
item_owed w null r (inl h) = h
item_owed w null r (inr h) = h
item_owed w (bool false) r h = h
item_owed w (bool true) r h = h
item_owed w (int z) r (fits, (n, inl (h, e))) = h
item_owed w (int z) r (fits, (n, inr (h, e))) = h
item_owed w (number t) r (z, out, is, (n, inl (h, e))) = h
item_owed w (number t) r (z, out, is, (n, inr (h, e))) = h
item_owed w (text t) r (inl (s1, h, e, is)) = h
item_owed w (text t) r (inr (s1, ts, h, chunks, e)) = h
item_owed w (bytes t) r (inl (s1, h, e, is)) = h
item_owed w (bytes t) r (inr (s1, ts, h, chunks, e)) = h
item_owed w (tag k n) r (s1, h, item) = h
item_owed w (opaque b) r h = h
item_owed w (list ns) r (inl (n, s1, h, more)) = h
item_owed w (list ns) r (inr (s1, h, more)) = h
item_owed w (object ms) r (inl (n, s1, h, more)) = h
item_owed w (object ms) r (inr (s1, h, more)) = h

entry_owed : (w : Keys) (limit : ℕ) (ls : List Level) (es : List TimedEvent) → CborEnds w limit (AListToBreak ∷ ls) [] es → ⊥
entry_owed w limit ls es (no_nodes, r, fs, h, room, en) = h.0
entry_owed w limit ls es (node x xs, r, fs, (s1, vs, item, more), room, en) = item_owed w x s1 (timed_item (key_of w) x [] s1 es vs item)

pair_owed : (w : Keys) (limit : ℕ) (ls : List Level) (es : List TimedEvent) → CborEnds w limit (AMapToBreak ∷ ls) [] es → ⊥
pair_owed w limit ls es (no_members, r, fs, h, room, en) = h.0
pair_owed w limit ls es (member k x xs, r, fs, (s1, s2, vs, ws, key, e, item, more), room, en) =
    key_owed w limit (AMapToBreak ∷ ls) es (k, s1, vs, key, (x, s2, ws, item, omega arith, (xs, r, fs, more, omega arith, en)), e)

after_owed : (w : Keys) (limit : ℕ) (ls : List Level) (es : List TimedEvent) → BehindItem ls → (ls ≡ [] → ⊥) → CborEnds w limit ls [] es → ⊥
after_owed w limit [] es open_to some h = some refl
after_owed w limit (Tag ∷ ls) es open_to some h = open_to
after_owed w limit (AList n ∷ ls) es open_to some h = open_to
after_owed w limit (AListToBreak ∷ ls) es open_to some h = entry_owed w limit ls es h
after_owed w limit (AMap n ∷ ls) es open_to some h = open_to
after_owed w limit (AMapToBreak ∷ ls) es open_to some h = pair_owed w limit ls es h

owed_at : (w : Keys) (limit : ℕ) (p : CborPlace) (t : List ℕ) (ls : List Level) (es : List TimedEvent) → Begun p ls
    → (p ≡ After → ls ≡ [] → ⊥)
    → CborRestAt w limit p t ls [] es → ⊥
owed_at w limit Item t ls es begun some (n, r, fs, h, room, en) = item_owed w n r (timed_item (key_of w) n [] r es fs h)
owed_at w limit Key t ls es begun some h = key_owed w limit ls es h
owed_at w limit After t ls es begun some h = after_owed w limit ls es begun (some refl) h
owed_at w limit (InArgument j k v) t ls es begun some h = argument_owed w limit j k v t ls es begun h
owed_at w limit (String kind span n place) t ls es begun some h = string_owed w limit kind span n place t ls es begun h
owed_at w limit (Chunks kind) t ls es begun some h = chunks_owed w limit kind t ls es h

pub cut_short : (r : Reader) → IsSoundReader r → (r.place ≡ After → levels_of r ≡ [] → ⊥) → (w : Keys) (limit : ℕ) (es : List TimedEvent)
    → CborRest w limit (cbor_state_of r) [] es → ⊥
cut_short r sound some w limit es h = owed_at w limit r.place r.held.items (levels_of r) es sound.begun some h

-- what a refused turn leaves of what the sink takes, its place counted from further on
pub takes_moved : (T U V : Takes) (n : ℕ) (refusal : SyntaxRefusal) → TakesSame T U → TakesBeside U V refusal
    → TakesBeside T V (moved_by n refusal)
takes_moved T U V n (Bad p) first next = λ e h. next e (first e h)
takes_moved T U V n Ended first next = λ e h. next e (first e h)
takes_moved T U V n (TooDeep p) first next = λ e h. next e (first e h)
takes_moved T U V n (KeyKind p) first next = λ e h. next e (first e h)
takes_moved T U V n NoMemory first next = tt
