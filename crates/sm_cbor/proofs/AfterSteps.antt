-- What the reader does with a byte behind an item: where nothing is open, or what ends with a break.
use Rattle.std.proofs.Common.{◌≡◌, ◌≢◌, ℕ, inl, inr, List, [], ◌∷◌, None, refl, sym, ap, subst, arith}
use Rattle.std.proofs.Common.{Result, Ok, Err}
use Rattle.sm_tree.specs.declared.refusal.SyntaxRefusal.{SyntaxRefusal}
use Rattle.sm_tree.specs.declared.refusal.SyntaxRefusal.TheVariants.{Bad, Ended, TooDeep, KeyKind, NoMemory}
use Rattle.sm_tree.specs.Limits.{most_levels}
use Rattle.sm_tree.specs.Events.{NodeEvent}
use Rattle.sm_tree.specs.Streams.{StandsFor}
use Rattle.sm_cbor.specs.steps.Sinks.{Reached}
use Rattle.sm_cbor.specs.Refusals.{mark}
use Rattle.sm_cbor.specs.steps.Marks.{Keys, plain, marked}
use Rattle.sm_cbor.specs.steps.Rest.{CborState, CborLeads, LeadsBack, CborStops, first_state}
use Rattle.sm_cbor.specs.steps.Machine.{levels_of, cbor_state_at, cbor_state_of, IsAt, IsBadByte, IsOtherKey, OpensTooDeep, CborTakesByte}
use Rattle.sm_cbor.specs.steps.Machine.{IsFirstLevel}
use Rattle.sm_tree.specs.Nested.{innermost_of}
use Rattle.sm_cbor.specs.declared.place.Level.{Level}
use Rattle.sm_cbor.specs.declared.place.Level.TheVariants.{ListToBreak as AListToBreak, MapToBreak as AMapToBreak}
use Rattle.sm_cbor.specs.declared.place.CborPlace.{CborPlace}
use Rattle.sm_cbor.specs.declared.place.CborPlace.TheVariants.{Item, Key, After}
use Rattle.sm_cbor.specs.declared.read.Reader.{Reader}
use Rattle.sm_cbor.proofs.Items.{at}
use Rattle.sm_cbor.proofs.LevelSteps.{entry_goes_on, pair_goes_on, only_entry, only_pair, done_stops, entry_comes, pair_comes}

-- behind an item
first_is : (ls : List Level) (l : Level) → IsFirstLevel l ls → (ks : List Level) × (ls ≡ l ∷ ks)
first_is [] l e = absurd cc
first_is (k ∷ ks) l e = (ks, let same : k ≡ l = cc in ap (λ x. x ∷ ks) same)

nothing_open : (ls : List Level) → innermost_of ls ≡ None → ls ≡ []
nothing_open [] e = refl
nothing_open (k ∷ ks) e = absurd cc

pub done_bad : (r : Reader) (c : ℕ) → innermost_of (levels_of r) ≡ None → IsBadByte (cbor_state_at r After) c
done_bad r c none = subst (λ ls. IsBadByte (at After r.held.items ls) c) (sym (nothing_open (levels_of r) none)) (record {
  stops = λ limit. done_stops plain limit c r.held.items;
  no_key = inl (λ limit. done_stops marked limit mark r.held.items);
})

pub entry_there : (r : Reader) → IsAt r After → IsFirstLevel AListToBreak (levels_of r) → IsAt r Item
entry_there r there first = record { room = there.room; keeps = tt }

pub pair_there : (r : Reader) → IsAt r After → IsFirstLevel AMapToBreak (levels_of r) → IsAt r Key
pair_there r there first = record { room = there.room; keeps = tt }

-- behind an entry that a break may follow, a sink has also reached the place where the next must come; and a key behind a pair
pub entry_reached : (S : StandsFor) (r : Reader) → IsFirstLevel AListToBreak (levels_of r) → Reached S (cbor_state_at r After)
    → Reached S (cbor_state_at r Item)
entry_reached S r first (bs, es, back, stands) =
    let (ls, e) = first_is (levels_of r) AListToBreak first in (
      bs,
      es,
      subst (λ ks. LeadsBack plain most_levels first_state bs es (at After r.held.items ks)
          → LeadsBack plain most_levels first_state bs es (at Item r.held.items ks)) (sym e)
          (λ b s fs rest. b s fs (entry_comes plain most_levels ls s fs rest)) back,
      stands,
    )

pub pair_reached : (S : StandsFor) (r : Reader) → IsFirstLevel AMapToBreak (levels_of r) → Reached S (cbor_state_at r After)
    → Reached S (cbor_state_at r Key)
pair_reached S r first (bs, es, back, stands) =
    let (ls, e) = first_is (levels_of r) AMapToBreak first in (
      bs,
      es,
      subst (λ ks. LeadsBack plain most_levels first_state bs es (at After r.held.items ks)
          → LeadsBack plain most_levels first_state bs es (at Key r.held.items ks)) (sym e)
          (λ b s fs rest. b s fs (pair_comes plain most_levels ls s fs rest)) back,
      stands,
    )

-- what a byte that is no break does behind an entry is what it does where an item must come
entry_stops : (w : Keys) (limit c : ℕ) (t : List ℕ) (ls : List Level) → c ≢ 0xFF → CborStops w limit (at Item t (AListToBreak ∷ ls)) c
    → CborStops w limit (at After t (AListToBreak ∷ ls)) c
entry_stops w limit c t ls other stops s es h = stops s es (only_entry w limit c ls s es other h)

pair_stops : (w : Keys) (limit c : ℕ) (t : List ℕ) (ls : List Level) → c ≢ 0xFF → CborStops w limit (at Key t (AMapToBreak ∷ ls)) c
    → CborStops w limit (at After t (AMapToBreak ∷ ls)) c
pair_stops w limit c t ls other stops s es h = stops s es (only_pair w limit c ls s es other h)

entry_bad : (t : List ℕ) (c : ℕ) (ls : List Level) → c ≢ 0xFF → IsBadByte (at Item t (AListToBreak ∷ ls)) c
    → IsBadByte (at After t (AListToBreak ∷ ls)) c
entry_bad t c ls other h = record {
  stops = λ limit. entry_stops plain limit c t ls other (h.stops limit);
  no_key = elim h.no_key [
    | inl no_mark ↦ inl (λ limit. entry_stops marked limit mark t ls (λ e. omega arith) (no_mark limit))
    | inr none ↦
        inr none
  ];
}

entry_deep : (t : List ℕ) (c : ℕ) (ls : List Level) → c ≢ 0xFF → OpensTooDeep (at Item t (AListToBreak ∷ ls)) c
    → OpensTooDeep (at After t (AListToBreak ∷ ls)) c
entry_deep t c ls other h =
    let (limit, high, s, es, rest) = h.goes_on in record {
      stops = entry_stops plain most_levels c t ls other h.stops;
      goes_on = (limit, high, s, es, entry_comes plain limit ls (c ∷ s) es rest);
    }

entry_other : (t : List ℕ) (c : ℕ) (ls : List Level) → c ≢ 0xFF → IsOtherKey (at Item t (AListToBreak ∷ ls)) c
    → IsOtherKey (at After t (AListToBreak ∷ ls)) c
entry_other t c ls other h =
    let (limit, high, s, es, rest) = h.key in record {
      stops = λ limit. entry_stops plain limit c t ls other (h.stops limit);
      key = (limit, high, s, es, entry_comes marked limit ls (mark ∷ s) es rest);
      other = h.other;
    }

pair_bad : (t : List ℕ) (c : ℕ) (ls : List Level) → c ≢ 0xFF → IsBadByte (at Key t (AMapToBreak ∷ ls)) c
    → IsBadByte (at After t (AMapToBreak ∷ ls)) c
pair_bad t c ls other h = record {
  stops = λ limit. pair_stops plain limit c t ls other (h.stops limit);
  no_key = elim h.no_key [
    | inl no_mark ↦ inl (λ limit. pair_stops marked limit mark t ls (λ e. omega arith) (no_mark limit))
    | inr none ↦
        inr none
  ];
}

pair_deep : (t : List ℕ) (c : ℕ) (ls : List Level) → c ≢ 0xFF → OpensTooDeep (at Key t (AMapToBreak ∷ ls)) c
    → OpensTooDeep (at After t (AMapToBreak ∷ ls)) c
pair_deep t c ls other h =
    let (limit, high, s, es, rest) = h.goes_on in record {
      stops = pair_stops plain most_levels c t ls other h.stops;
      goes_on = (limit, high, s, es, pair_comes plain limit ls (c ∷ s) es rest);
    }

pair_other : (t : List ℕ) (c : ℕ) (ls : List Level) → c ≢ 0xFF → IsOtherKey (at Key t (AMapToBreak ∷ ls)) c
    → IsOtherKey (at After t (AMapToBreak ∷ ls)) c
pair_other t c ls other h =
    let (limit, high, s, es, rest) = h.key in record {
      stops = λ limit. pair_stops plain limit c t ls other (h.stops limit);
      key = (limit, high, s, es, pair_comes marked limit ls (mark ∷ s) es rest);
      other = h.other;
    }

abbrev ToAfter : (CborState → ℕ → Type 0) → CborPlace → Level → Type 0
ToAfter P p l = (t : List ℕ) (c : ℕ) (ls : List Level) → c ≢ 0xFF → P (at p t (l ∷ ls)) c → P (at After t (l ∷ ls)) c

as_after : (P : CborState → ℕ → Type 0) (r : Reader) (p : CborPlace) (l : Level) (ls : List Level) (c : ℕ) → levels_of r ≡ l ∷ ls
    → ToAfter P p l → c ≢ 0xFF → P (cbor_state_at r p) c → P (cbor_state_at r After) c
as_after P r p l ls c e to other h = subst (λ ks. P (at p r.held.items ks) c → P (at After r.held.items ks) c) (sym e)
    (to r.held.items c ls other) h

leads_after : (w : Keys) (limit c : ℕ) (r : Reader) (p : CborPlace) (l : Level) (ls : List Level) (out : List NodeEvent) (x : CborState)
    → levels_of r ≡ l ∷ ls
    → (CborLeads w limit (at p r.held.items (l ∷ ls)) (c ∷ []) out x → CborLeads w limit (at After r.held.items (l ∷ ls)) (c ∷ []) out x)
    → CborLeads w limit (cbor_state_at r p) (c ∷ []) out x → CborLeads w limit (cbor_state_at r After) (c ∷ []) out x
leads_after w limit c r p l ls out x e to h =
    subst (λ ks. CborLeads w limit (at p r.held.items ks) (c ∷ []) out x → CborLeads w limit (at After r.held.items ks) (c ∷ []) out x)
    (sym e) to h

pub entry_takes : (S T : StandsFor) (r q : Reader) (c : ℕ) (result : Result (Unit {0}) SyntaxRefusal) → IsFirstLevel AListToBreak
    (levels_of r) → c ≢ 0xFF
    → CborTakesByte S r Item c T q result → CborTakesByte S r After c T q result
entry_takes S T r q c (Ok x) first other h =
    let (ls, e) = first_is (levels_of r) AListToBreak first in record {
      out = h.out;
      leads = λ w limit high. leads_after w limit c r Item AListToBreak ls h.out (cbor_state_of q) e
          (entry_goes_on w limit c r.held.items ls h.out (cbor_state_of q) other) (h.leads w limit high);
      taken = h.taken;
      sound = h.sound;
    }
entry_takes S T r q c (Err NoMemory) first other h = tt
entry_takes S T r q c (Err (Bad n)) first other h = let (ls, e) = first_is (levels_of r) AListToBreak first in
    (h.0, as_after IsBadByte r Item AListToBreak ls c e (λ t d ks o x. entry_bad t d ks o x) other h.1, h.2)
entry_takes S T r q c (Err Ended) first other h = h
entry_takes S T r q c (Err (TooDeep n)) first other h = let (ls, e) = first_is (levels_of r) AListToBreak first in
    (h.0, as_after OpensTooDeep r Item AListToBreak ls c e (λ t d ks o x. entry_deep t d ks o x) other h.1, h.2)
entry_takes S T r q c (Err (KeyKind n)) first other h = let (ls, e) = first_is (levels_of r) AListToBreak first in
    (h.0, as_after IsOtherKey r Item AListToBreak ls c e (λ t d ks o x. entry_other t d ks o x) other h.1, h.2)

pub pair_takes : (S T : StandsFor) (r q : Reader) (c : ℕ) (result : Result (Unit {0}) SyntaxRefusal) → IsFirstLevel AMapToBreak
    (levels_of r) → c ≢ 0xFF
    → CborTakesByte S r Key c T q result → CborTakesByte S r After c T q result
pair_takes S T r q c (Ok x) first other h =
    let (ls, e) = first_is (levels_of r) AMapToBreak first in record {
      out = h.out;
      leads = λ w limit high. leads_after w limit c r Key AMapToBreak ls h.out (cbor_state_of q) e
          (pair_goes_on w limit c r.held.items ls h.out (cbor_state_of q) other) (h.leads w limit high);
      taken = h.taken;
      sound = h.sound;
    }
pair_takes S T r q c (Err NoMemory) first other h = tt
pair_takes S T r q c (Err (Bad n)) first other h = let (ls, e) = first_is (levels_of r) AMapToBreak first in
    (h.0, as_after IsBadByte r Key AMapToBreak ls c e (λ t d ks o x. pair_bad t d ks o x) other h.1, h.2)
pair_takes S T r q c (Err Ended) first other h = h
pair_takes S T r q c (Err (TooDeep n)) first other h = let (ls, e) = first_is (levels_of r) AMapToBreak first in
    (h.0, as_after OpensTooDeep r Key AMapToBreak ls c e (λ t d ks o x. pair_deep t d ks o x) other h.1, h.2)
pair_takes S T r q c (Err (KeyKind n)) first other h = let (ls, e) = first_is (levels_of r) AMapToBreak first in
    (h.0, as_after IsOtherKey r Key AMapToBreak ls c e (λ t d ks o x. pair_other t d ks o x) other h.1, h.2)
