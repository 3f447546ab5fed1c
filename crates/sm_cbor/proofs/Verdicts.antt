-- From the reader's steps to what bytes are: an item, cut short, or refused at one place for one cause.
use Rattle.std.proofs.Common.{Err, ◌≡◌, ℕ, ◌+◌, ◌≤◌, ◌<◌, max, inl, inr, List, [], ◌∷◌, ◌++◌, refl, sym, ap, subst, ◌∙◌, arith, length}
use Rattle.std.proofs.Common.{take, get_or, append-nil, append_assoc}
use Rattle.std.proofs.lemmas.List.{take_more}
use Rattle.sm_tree.specs.Node.{Node, null}
use Rattle.sm_tree.specs.Levels.{levels}
use Rattle.sm_tree.specs.Limits.{most_levels}
use Rattle.sm_tree.specs.Syntax.{Begins, BeginsRead, IsBadAt, IsKeyKindAt, IsBadByteAt, IsTooDeepAt, IsCutShort, Reads}
use Rattle.sm_tree.specs.Events.{NodeEvent}
use Rattle.sm_tree.specs.Streams.{StandsFor, Streams}
use Rattle.sm_tree.specs.Timing.{TimedEvent, untimed}
use Rattle.sm_tree.specs.declared.refusal.SyntaxRefusal.{SyntaxRefusal}
use Rattle.sm_tree.specs.declared.refusal.SyntaxRefusal.TheVariants.{Bad, Ended, TooDeep, KeyKind, NoMemory}
use Rattle.sm_tree.proofs.Handing.{hands_untimed}
use Rattle.sm_cbor.specs.CborItem.{TextString, Item as ItemBytes, CborItem}
use Rattle.sm_cbor.specs.steps.Marks.{Keys, plain, marked, key_of}
use Rattle.sm_cbor.specs.Refusals.{mark, cbor_syntax}
use Rattle.sm_cbor.specs.steps.Rest.{first_state, CborRest, CborLeads, CborStops}
use Rattle.sm_cbor.specs.steps.Machine.{Lives, cbor_state_at, cbor_state_of, levels_of, IsAt, CborGoes, RefusesAt, IsPlaceOf}
use Rattle.sm_cbor.specs.Stands.{CborRuns}
use Rattle.sm_cbor.specs.declared.place.CborPlace.{CborPlace}
use Rattle.sm_cbor.specs.declared.place.CborPlace.TheVariants.{Item, Key, After, Argument as InArgument, String, Chunks}
use Rattle.sm_cbor.specs.declared.read.Reader.{Reader}
use Rattle.sm_cbor.proofs.Endings.{goes_on}
use Rattle.sm_cbor.proofs.Starting.{item_start, start_item}
use Rattle.sm_cbor.proofs.Timings.{timed_item, timed_stream}

-- a run of the reader from the first state
pub runs_from : (S T : StandsFor) (r q : Reader) (bs : List ℕ) → cbor_state_of r ≡ first_state → (goes : CborGoes S r [] r.place bs T q)
    → CborRuns bs goes.out q
runs_from S T r q bs first goes = record {
  leads = λ w limit high. subst (λ x. CborLeads w limit x bs goes.out (cbor_state_of q)) first (goes.leads w limit high);
  sound = goes.sound;
}

-- the place at which a sound reader stands lives
pub lives : (r : Reader) (p : CborPlace) → IsAt r p → Lives p
lives r Item there = tt
lives r Key there = tt
lives r After there = tt
lives r (InArgument j k v) there = let keeps = there.keeps in keeps.0
lives r (String kind span n place) there = let keeps = there.keeps in keeps.0
lives r (Chunks kind) there = tt

-- so the bytes so far begin an item that is read
begun : (bs : List ℕ) (out : List NodeEvent) (q : Reader) → CborRuns bs out q → BeginsRead CborItem bs
begun bs out q run =
    let (s, es, rest) = goes_on plain most_levels q.place q.held.items (levels_of q) run.sound.there.room
    (lives q q.place run.sound.there) in
    let (os, hands, first) = (run.leads plain most_levels (omega arith)).back s es rest in
    let (n, item, room) = start_item plain most_levels (bs ++ s) (os ++ es) first in
    (s, n, (timed_item TextString n (bs ++ s) [] (os ++ es) [] item, room))

-- no bytes begin one
pub nothing_begins : BeginsRead CborItem []
nothing_begins = (0xF6 ∷ [], null, (inl (refl, refl), omega arith))

-- some limit holds of any tree
abbrev limit_of : Node → ℕ
limit_of n = max (levels n) most_levels

onward_of : (w : Keys) (bs s : List ℕ) (out : List NodeEvent) (q : Reader) (n : Node) → CborRuns bs out q → ItemBytes (key_of w) n
    (bs ++ s) []
    → (es : List TimedEvent) × CborRest w (limit_of n) (cbor_state_of q) s es
onward_of w bs s out q n run item =
    let (es, first) = item_start w (limit_of n) (bs ++ s) n item (omega arith) in
    let (os, fs, e, hands, rest) = (run.leads w (limit_of n) (omega arith)).onward s es first in (fs, rest)

with_byte : (bs more : List ℕ) (at : ℕ) → at < length bs → take (at + 1) bs ++ more ≡ take at bs ++ (get_or bs at 0 ∷ more)
with_byte bs more at inside = ap (λ x. x ++ more) (take_more bs at 0 inside) ∙ append_assoc (take at bs) (get_or bs at 0 ∷ []) more

-- no item goes on with the byte
never : (bs : List ℕ) (at : ℕ) (out : List NodeEvent) (q : Reader) → at < length bs → CborRuns (take at bs) out q
    → ((limit : ℕ) → CborStops plain limit (cbor_state_of q) (get_or bs at 0)) → Begins CborItem (take (at + 1) bs) → ⊥
never bs at out q inside run stops (more, n, item) =
    let (es, rest) = onward_of plain (take at bs) (get_or bs at 0 ∷ more) out q n run
    (subst (λ x. ItemBytes TextString n x []) (with_byte bs more at inside) item) in
    stops (limit_of n) more es rest

bad_at : (bs : List ℕ) (at : ℕ) (out : List NodeEvent) (q : Reader) → at < length bs → CborRuns (take at bs) out q
    → ((limit : ℕ) → CborStops plain limit (cbor_state_of q) (get_or bs at 0)) → IsBadAt CborItem bs at
bad_at bs at out q inside run stops = record
    { inside = inside; before = begun (take at bs) out q run; behind = never bs at out q inside run stops }

back_of : (w : Keys) (bs s : List ℕ) (out : List NodeEvent) (es : List TimedEvent) (limit : ℕ) (q : Reader) → most_levels ≤ limit
    → CborRuns bs out q
    → CborRest w limit (cbor_state_of q) s es → (n : Node) × ItemBytes (key_of w) n (bs ++ s) []
back_of w bs s out es limit q high run rest =
    let (os, hands, first) = (run.leads w limit high).back s es rest in
    let (n, item, room) = start_item w limit (bs ++ s) (os ++ es) first in (n, timed_item (key_of w) n (bs ++ s) [] (os ++ es) [] item)

-- each refusal is what the bytes are
pub refused_is : (bs : List ℕ) (at : ℕ) (out : List NodeEvent) (q : Reader) (refusal : SyntaxRefusal) → at < length bs
    → CborRuns (take at bs) out q → RefusesAt (cbor_state_of q) (get_or bs at 0) refusal → IsPlaceOf at refusal
    → Reads cbor_syntax bs (Err refusal)
refused_is bs at out q NoMemory inside run refuses is = tt
refused_is bs at out q Ended inside run refuses is = absurd refuses
refused_is bs at out q (Bad place) inside run refuses is =
    subst (λ i. IsBadByteAt cbor_syntax bs i) (sym is) (record {
      bad = bad_at bs at out q inside run refuses.stops;
      no_key_kind = λ h. elim refuses.no_key [
        | inl no_mark ↦
            let (more, n, item) = (h.key).0 in
            let (es, rest) = onward_of marked (take at bs) (mark ∷ more) out q n run item in
            no_mark (limit_of n) more es rest
        | inr no_other ↦ no_other (h.key).1
      ];
    })
refused_is bs at out q (TooDeep place) inside run refuses is =
    let (limit, high, s, es, rest) = refuses.goes_on in
    let (n, item) = back_of plain (take at bs) (get_or bs at 0 ∷ s) out es limit q high run rest in
    subst (λ i. IsTooDeepAt CborItem bs i) (sym is) (record {
      inside = inside;
      before = begun (take at bs) out q run;
      goes_on = (s, n, subst (λ x. ItemBytes TextString n x []) (sym (with_byte bs s at inside)) item);
      too_deep = λ h.
          let (more, m, (item1, room)) = h in
          let (ts, first) = item_start plain most_levels (take at bs ++ (get_or bs at 0 ∷ more)) m
          (subst (λ x. ItemBytes TextString m x []) (with_byte bs more at inside) item1) room in
          let (os, fs, e, hands, rest1) = (run.leads plain most_levels (omega arith)).onward (get_or bs at 0 ∷ more) ts first in
          refuses.stops more fs rest1;
    })
refused_is bs at out q (KeyKind place) inside run refuses is =
    let (limit, high, s, es, rest) = refuses.key in
    let (n, item) = back_of marked (take at bs) (mark ∷ s) out es limit q high run rest in
    subst (λ i. IsKeyKindAt cbor_syntax bs i) (sym is) (record {
      bad = bad_at bs at out q inside run refuses.stops;
      key = ((s, n, item), refuses.other);
    })

-- and the end of the bytes: an item is whole, and what was handed on is a stream of its tree
pub whole_read : (q : Reader) (bs : List ℕ) (out : List NodeEvent) → CborRuns bs out q → q.place ≡ After → levels_of q ≡ []
    → (n : Node) × ItemBytes TextString n bs [] × (levels n ≤ most_levels) × Streams n out []
whole_read q bs out run place none_open =
    let done : CborRest plain most_levels (cbor_state_of q) [] [] =
    subst (λ p. CborRest plain most_levels (cbor_state_at q p) [] []) (sym place)
    (subst (λ ls. CborRest plain most_levels (record { place = After; held = q.held.items; levels = ls }) [] []) (sym none_open)
    (refl, refl)) in
    let (os, hands, start) = (run.leads plain most_levels (omega arith)).back [] [] done in
    let (n, timed, room) = start_item plain most_levels (bs ++ []) (os ++ []) start in (
      n,
      subst (λ x. ItemBytes TextString n x []) (append-nil bs) (timed_item TextString n (bs ++ []) [] (os ++ []) [] timed),
      room,
      subst (λ es. Streams n es []) (ap untimed (append-nil os) ∙ hands_untimed 0 os out hands)
          (timed_stream TextString n (bs ++ []) [] (os ++ []) [] timed),
    )

-- or it is cut short
pub cut_read : (q : Reader) (bs : List ℕ) (out : List NodeEvent) → CborRuns bs out q
    → ((w : Keys) (limit : ℕ) (es : List TimedEvent) → CborRest w limit (cbor_state_of q) [] es → ⊥) → IsCutShort CborItem bs
cut_read q bs out run owed = record {
  begun = begun bs out q run;
  no_text = λ n h.
      let (es, start) = item_start plain most_levels (bs ++ []) n (subst (λ x. ItemBytes TextString n x []) (sym
      (append-nil bs)) h.0) h.1 in
      let (os, fs, e, hands, rest) = (run.leads plain most_levels (omega arith)).onward [] es start in
      owed plain most_levels fs rest;
}
