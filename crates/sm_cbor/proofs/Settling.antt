-- What ends with an item, level by level: the loop of the reader that settles.
use Rattle.std.proofs.Common.{◌≡◌, ℕ, ◌-◌, ◌≤◌, ◌<◌, false, List, [], ◌∷◌, ◌++◌, sym, ap, subst, ◌∙◌, arith, length, Option, None, Some}
use Rattle.std.proofs.Common.{◌==◌}
use Rattle.std.proofs.lemmas.Bool.Decides.{nat_tests}
use Rattle.sm_tree.specs.Limits.{most_levels}
use Rattle.sm_tree.specs.Events.{NodeEvent, end_list, end_object}
use Rattle.sm_tree.specs.Streams.{StandsFor, MayTake, TakesOn}
use Rattle.sm_tree.specs.steps.Handing.{TakesAll}
use Rattle.sm_tree.proofs.Handing.{takes_none, takes_both}
use Rattle.sm_cbor.specs.steps.Marks.{Keys, plain}
use Rattle.sm_cbor.specs.steps.Rest.{CborState, CborLeads}
use Rattle.sm_cbor.specs.steps.Sinks.{Reached}
use Rattle.sm_cbor.specs.steps.Machine.{levels_of, cbor_state_at, cbor_state_of, Begun, IsAt, IsSoundReader, BehindItem, CborGoes}
use Rattle.sm_tree.specs.Nested.{LosesInnermost}
use Rattle.sm_cbor.specs.declared.place.Level.{Level}
use Rattle.sm_cbor.specs.declared.place.Level.TheVariants.{Tag, List as AList, Map as AMap}
use Rattle.sm_cbor.specs.declared.place.CborPlace.{CborPlace}
use Rattle.sm_cbor.specs.declared.place.CborPlace.TheVariants.{Item, Key, After}
use Rattle.sm_cbor.specs.declared.read.Reader.{Reader}
use Rattle.sm_cbor.proofs.Items.{at}
use Rattle.sm_cbor.proofs.LevelSteps.{tag_ends, list_ends, map_ends, entry_leads, pair_leads}
use Rattle.sm_cbor.proofs.Readings.{leads_silent, leads_none, leads_joined}
use Rattle.sm_cbor.proofs.Reaching.{CanGoOn, may_take, reached_on}

-- what has ended so far: the same may come, and the events of the ends were handed on
pub record Settles (S : StandsFor) (before : Reader) (T : StandsFor) (now : Reader) : Type 0 where
  pub out : List NodeEvent
  pub leads : (w : Keys) (limit : ℕ) → most_levels ≤ limit → CborLeads w limit (cbor_state_at before After) [] out (cbor_state_at now After)
  pub taken : TakesAll S out T
  pub there : IsAt now After

pub settles_first : (S : StandsFor) (r : Reader) → IsAt r After → Settles S r S r
settles_first S r there = record {
  out = [];
  leads = λ w limit high. leads_none w limit (cbor_state_at r After);
  taken = takes_none S;
  there = there;
}

settles_more : (S M T : StandsFor) (before now next : Reader) (out : List NodeEvent) → Settles S before M now
    → ((w : Keys) (limit : ℕ) → most_levels ≤ limit → CborLeads w limit (cbor_state_at now After) [] out (cbor_state_at next After))
    → TakesAll M out T → IsAt next After → Settles S before T next
settles_more S M T before now next out h leads taken there = record {
  out = h.out ++ out;
  leads = λ w limit high. leads_joined w limit (cbor_state_at before After) (cbor_state_at now After) (cbor_state_at next After) [] [] h.out
      out (h.leads w limit high) (leads w limit high);
  taken = takes_both S M T h.out out h.taken taken;
  there = there;
}

settles_to : (S T : StandsFor) (before now behind : Reader) → Settles S before T now
    → ((w : Keys) (limit : ℕ) → most_levels ≤ limit → CborLeads w limit (cbor_state_at now After) [] [] (cbor_state_of behind))
    → IsSoundReader behind → CborGoes S before [] After [] T behind
settles_to S T before now behind h leads sound = record {
  out = h.out ++ [];
  leads = λ w limit high. leads_joined w limit (cbor_state_at before After) (cbor_state_at now After) (cbor_state_of behind) [] [] h.out []
      (h.leads w limit high) (leads w limit high);
  taken = takes_both S T T h.out [] h.taken (takes_none T);
  sound = sound;
}

-- the reader's levels as a list
pub from_levels : (w : Keys) (limit : ℕ) (r : Reader) (p : CborPlace) (ls : List Level) (v : List ℕ) (out : List NodeEvent) (x : CborState)
    → levels_of r ≡ ls → CborLeads w limit (at p r.held.items ls) v out x → CborLeads w limit (cbor_state_at r p) v out x
from_levels w limit r p ls v out x e h = subst (λ ks. CborLeads w limit (at p r.held.items ks) v out x) (sym e) h

-- what the sink has reached
pub can_after : (r : Reader) → IsAt r After → CanGoOn (cbor_state_at r After)
can_after r there = (tt, there.room)

reached_settled : (S T : StandsFor) (before now : Reader) → Reached S (cbor_state_at before After) → Settles S before T now
    → Reached T (cbor_state_at now After)
reached_settled S T before now reached h =
    reached_on S T (cbor_state_at before After) (cbor_state_at now After) [] h.out reached (h.leads plain most_levels (omega arith))
    (can_after now h.there) h.taken

-- what is known where the innermost is l
room_at : (r : Reader) (ls : List Level) → IsAt r After → levels_of r ≡ ls → length ls ≤ most_levels
room_at r ls there e = let room = there.room in let len = ap length e in omega arith

pub behind_level : (now next : Reader) (l : Level) → IsAt now After → levels_of now ≡ l ∷ levels_of next → IsAt next After
behind_level now next l there e = record { room = let room = room_at now (l ∷ levels_of next) there e in omega arith; keeps = tt }

-- a tag
pub tag_settles : (S T : StandsFor) (before now next : Reader) → Settles S before T now → levels_of now ≡ Tag ∷ levels_of next
    → Settles S before T next
tag_settles S T before now next h e =
    settles_more S T T before now next [] h
    (λ w limit high. from_levels w limit now After (Tag ∷ levels_of next) [] [] (cbor_state_at next After) e
    (tag_ends w limit now.held.items next.held.items (levels_of next)))
    (takes_none T) (behind_level now next Tag h.there e)

-- an array, and a map, all of which has come
pub list_settles : (S M T : StandsFor) (before now next : Reader) → Settles S before M now → levels_of now ≡ AList 0 ∷ levels_of next
    → TakesOn M end_list T → Settles S before T next
list_settles S M T before now next h e taken =
    let room = room_at now (AList 0 ∷ levels_of next) h.there e in
    settles_more S M T before now next (end_list ∷ []) h
    (λ w limit high. from_levels w limit now After (AList 0 ∷ levels_of next) [] (end_list ∷ []) (cbor_state_at next After) e
    (list_ends w limit now.held.items next.held.items (levels_of next) (omega arith)))
    taken (behind_level now next (AList 0) h.there e)

pub map_settles : (S M T : StandsFor) (before now next : Reader) → Settles S before M now → levels_of now ≡ AMap 0 ∷ levels_of next
    → TakesOn M end_object T → Settles S before T next
map_settles S M T before now next h e taken =
    let room = room_at now (AMap 0 ∷ levels_of next) h.there e in
    settles_more S M T before now next (end_object ∷ []) h
    (λ w limit high. from_levels w limit now After (AMap 0 ∷ levels_of next) [] (end_object ∷ []) (cbor_state_at next After) e
    (map_ends w limit now.held.items next.held.items (levels_of next) (omega arith)))
    taken (behind_level now next (AMap 0) h.there e)

-- such an end may be handed on, where the sink has reached what is behind the item
pub list_end_may : (M : StandsFor) (before now next : Reader) (S : StandsFor) → Reached S (cbor_state_at before After)
    → Settles S before M now → levels_of now ≡ AList 0 ∷ levels_of next → MayTake M end_list
list_end_may M before now next S reached h e =
    let room = room_at now (AList 0 ∷ levels_of next) h.there e in
    may_take M (cbor_state_at now After) (cbor_state_at next After) [] end_list (reached_settled S M before now reached h)
    (from_levels plain most_levels now After (AList 0 ∷ levels_of next) [] (end_list ∷ []) (cbor_state_at next After) e
    (list_ends plain most_levels now.held.items next.held.items (levels_of next) (omega arith)))
    (can_after next (behind_level now next (AList 0) h.there e))

pub map_end_may : (M : StandsFor) (before now next : Reader) (S : StandsFor) → Reached S (cbor_state_at before After)
    → Settles S before M now → levels_of now ≡ AMap 0 ∷ levels_of next → MayTake M end_object
map_end_may M before now next S reached h e =
    let room = room_at now (AMap 0 ∷ levels_of next) h.there e in
    may_take M (cbor_state_at now After) (cbor_state_at next After) [] end_object (reached_settled S M before now reached h)
    (from_levels plain most_levels now After (AMap 0 ∷ levels_of next) [] (end_object ∷ []) (cbor_state_at next After) e
    (map_ends plain most_levels now.held.items next.held.items (levels_of next) (omega arith)))
    (can_after next (behind_level now next (AMap 0) h.there e))

-- the next entry, and the next key
pub entry_settles : (S T : StandsFor) (before now behind : Reader) (n : ℕ) (ls : List Level) → Settles S before T now
    → levels_of now ≡ AList n ∷ ls → 0 < n → behind.place ≡ Item → levels_of behind ≡ AList (n - 1) ∷ ls
    → CborGoes S before [] After [] T behind
entry_settles S T before now behind n ls h e some place f =
    settles_to S T before now behind h
    (λ w limit high. subst (λ p. CborLeads w limit (cbor_state_at now After) [] [] (cbor_state_at behind p)) (sym place)
    (subst (λ ks. CborLeads w limit (cbor_state_at now After) [] [] (at Item behind.held.items ks)) (sym f)
    (from_levels w limit now After (AList n ∷ ls) [] [] (at Item behind.held.items (AList (n - 1) ∷ ls)) e
    (entry_leads w limit n now.held.items behind.held.items ls some))))
    (record {
      there = subst (IsAt behind) (sym place) (record {
        room = let room = room_at now (AList n ∷ ls) h.there e in let len = ap length f in omega arith;
        keeps = tt;
      });
      begun = subst (λ p. Begun p (levels_of behind)) (sym place) tt;
    })

pub pair_settles : (S T : StandsFor) (before now behind : Reader) (n : ℕ) (ls : List Level) → Settles S before T now
    → levels_of now ≡ AMap n ∷ ls → 0 < n → behind.place ≡ Key → levels_of behind ≡ AMap (n - 1) ∷ ls
    → CborGoes S before [] After [] T behind
pair_settles S T before now behind n ls h e some place f =
    settles_to S T before now behind h
    (λ w limit high. subst (λ p. CborLeads w limit (cbor_state_at now After) [] [] (cbor_state_at behind p)) (sym place)
    (subst (λ ks. CborLeads w limit (cbor_state_at now After) [] [] (at Key behind.held.items ks)) (sym f)
    (from_levels w limit now After (AMap n ∷ ls) [] [] (at Key behind.held.items (AMap (n - 1) ∷ ls)) e
    (pair_leads w limit n now.held.items behind.held.items ls some))))
    (record {
      there = subst (IsAt behind) (sym place) (record {
        room = let room = room_at now (AMap n ∷ ls) h.there e in let len = ap length f in omega arith;
        keeps = tt;
      });
      begun = subst (λ p. Begun p (levels_of behind)) (sym place) tt;
    })

-- behind an item, where a break may come or nothing is open
pub rests_there : (S T : StandsFor) (before now behind : Reader) → Settles S before T now → behind.place ≡ After
    → levels_of behind ≡ levels_of now → Begun After (levels_of behind) → CborGoes S before [] After [] T behind
rests_there S T before now behind h place f begun =
    settles_to S T before now behind h
    (λ w limit high. subst (λ p. CborLeads w limit (cbor_state_at now After) [] [] (cbor_state_at behind p)) (sym place)
    (subst (λ ks. CborLeads w limit (cbor_state_at now After) [] [] (at After behind.held.items ks)) (sym f)
    (leads_silent (λ s es x. x) (λ s es x. x))))
    (record {
      there = subst (IsAt behind) (sym place) (record {
        room = let room = h.there.room in let len = ap length f in omega arith;
        keeps = tt;
      });
      begun = subst (λ p. Begun p (levels_of behind)) (sym place) begun;
    })

-- the same in the words of the level that was left
pub popped : (before behind : List Level) (l m : Level) → before ≡ l ∷ behind → l ≡ m → before ≡ m ∷ behind
popped before behind l m e f = e ∙ ap (λ x. x ∷ behind) f

pub room_left : (S T : StandsFor) (before now : Reader) (l : Level) (ls : List Level) → Settles S before T now → levels_of now ≡ l ∷ ls
    → length ls < most_levels
room_left S T before now l ls h e = let room = room_at now (l ∷ ls) h.there e in omega arith

-- a level that ends with a break is put back
pub stays : (S T : StandsFor) (before now behind : Reader) (l : Level) (ls : List Level) → Settles S before T now → levels_of now ≡ l ∷ ls
    → levels_of behind ≡ l ∷ ls → BehindItem (l ∷ ls) → behind.place ≡ After → CborGoes S before [] After [] T behind
stays S T before now behind l ls h e f open_to place =
    rests_there S T before now behind h place (f ∙ sym e) (subst (Begun After) (sym f) open_to)

-- nothing is open
pub all_left : (S T : StandsFor) (before now behind : Reader) (o : Option Level) → Settles S before T now
    → LosesInnermost (levels_of now) (levels_of behind) o → o ≡ None → behind.place ≡ After → CborGoes S before [] After [] T behind
all_left S T before now behind None h (none, same) is place =
    rests_there S T before now behind h place (same ∙ sym none) (subst (Begun After) (sym same) tt)
all_left S T before now behind (Some l) h e is place = cc

-- a count that isn't 0
pub some_left : (n : ℕ) → (n == 0) ≡ false → 0 < n
some_left n e = grind (arith, nat_tests)
