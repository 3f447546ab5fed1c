-- Where the reader hands an event on, its sink may be brought it: openers, ends and numbers.
use Rattle.std.proofs.Common.{◌≡◌, ℕ, ◌≤◌, ◌<◌, inl, inr, List, [], ◌∷◌, subst, arith, length, None, sym}
use Rattle.sm_tree.specs.declared.build.OpenKind.{OpenKind}
use Rattle.sm_tree.specs.declared.build.OpenKind.TheVariants.{List as a_list, Object as an_object}
use Rattle.sm_tree.specs.Building.{IsIn}
use Rattle.sm_json.specs.steps.Feeding.{IsPlaced}
use Rattle.sm_json.proofs.Feeding.{event_placed, number_placed, number_placed_on}
use Rattle.sm_tree.specs.Events.{NodeEvent, start_list, start_object, end_list, end_object}
use Rattle.sm_tree.specs.Streams.{StandsFor, Takes, MayTake}
use Rattle.sm_json.specs.steps.StringReading.{string_so_far}
use Rattle.sm_json.specs.steps.Rest.{first_entry, first_key, after, JsonLeads, ValueComes, FirstEntryComes}
use Rattle.sm_tree.specs.Syntax.{most_levels}
use Rattle.sm_json.specs.steps.Machine.{where_of, lists_of, JsonIsPlaced, IsNumberEvent, ClosesAt, HandsNumber, JsonIsSound}
use Rattle.sm_tree.specs.declared.number.Phase.{Phase}
use Rattle.sm_json.specs.declared.place.JsonPlace.{JsonPlace}
use Rattle.sm_json.specs.declared.place.JsonPlace.TheVariants.{Value, FirstEntry, FirstKey, After, Number}
use Rattle.sm_json.specs.declared.read.Reader.{Reader}
use Rattle.sm_json.proofs.Opening.{at, list_opens, object_opens}
use Rattle.sm_json.proofs.Closing.{after_goes_on, first_entry_goes_on, first_key_goes_on}
use Rattle.sm_json.proofs.Between.{list_empty, object_empty, first_entry_back}
use Rattle.sm_json.proofs.After.{list_ends, object_ends}
use Rattle.sm_json.proofs.Readers.{place_at, room_in, inside, kept_at}

-- the sink is placed behind a number that was handed on
pub number_over_placed : (r : Reader) (S T : StandsFor) (before behind : Takes) (phase : Phase) → r.place ≡ Number phase
    → JsonIsPlaced r S before → HandsNumber r S T behind → JsonIsPlaced (record r { place = After }) T behind
number_over_placed r S T before behind phase place placed hands = record {
  takes_all = hands.takes_all;
  placed = number_placed_on r.number.items (lists_of r) S T hands.tree
      (subst (λ p. IsPlaced (place_at r p) S) place placed.placed) (room_in r most_levels (omega arith)) hands.is hands.hands;
}

pub number_may_come : (r : Reader) (S : StandsFor) (takes : Takes) (phase : Phase) (e : NodeEvent) → r.place ≡ Number phase
    → JsonIsPlaced r S takes → IsNumberEvent r.number.items e → MayTake S e
number_may_come r S takes phase e place placed (n, is, one) =
    number_placed r.number.items (lists_of r) S n e (subst (λ p. IsPlaced (place_at r p) S) place placed.placed)
    (room_in r most_levels (omega arith)) is one

-- the sink may be brought what opens and what ends
pub list_may_open : (r : Reader) (S : StandsFor) (takes : Takes) → r.place ≡ Value → length (lists_of r) < most_levels
    → JsonIsPlaced r S takes → MayTake S (start_list None)
list_may_open r S takes place room placed =
    event_placed (place_at r Value) (at first_entry (a_list ∷ lists_of r)) (91 ∷ []) S (start_list None) []
    (subst (λ p. IsPlaced (place_at r p) S) place placed.placed) (list_opens most_levels (lists_of r))
    (first_entry_goes_on most_levels (lists_of r) room)

pub object_may_open : (r : Reader) (S : StandsFor) (takes : Takes) → r.place ≡ Value → length (lists_of r) < most_levels
    → JsonIsPlaced r S takes → MayTake S (start_object None)
object_may_open r S takes place room placed =
    event_placed (place_at r Value) (at first_key (an_object ∷ lists_of r)) (123 ∷ []) S (start_object None) []
    (subst (λ p. IsPlaced (place_at r p) S) place placed.placed) (object_opens most_levels (lists_of r))
    (first_key_goes_on most_levels (lists_of r) room)

ends_may_come : (r : Reader) (S : StandsFor) (takes : Takes) (p : JsonPlace) (k : OpenKind) (e : NodeEvent) (c : ℕ) → r.place ≡ p
    → IsIn k (lists_of r) → JsonIsPlaced r S takes
    → ((ks : List OpenKind) → length (k ∷ ks) ≤ most_levels
    → JsonLeads most_levels (at (where_of p r.number.items r.text.spot (string_so_far r.text)) (k ∷ ks)) (c ∷ []) (e ∷ []) (at after ks))
    → MayTake S e
ends_may_come r S takes p k e c place within placed law =
    let (ks, is) = inside (lists_of r) k within in
    let room : length (k ∷ ks) ≤ most_levels = subst (λ ls. length ls ≤ most_levels) is (room_in r most_levels (omega arith)) in
    event_placed (at (where_of p r.number.items r.text.spot (string_so_far r.text)) (k ∷ ks)) (at after ks) (c ∷ []) S e []
    (subst (λ ls. IsPlaced (at (where_of p r.number.items r.text.spot (string_so_far r.text)) ls) S) is
    (subst (λ q. IsPlaced (place_at r q) S) place placed.placed)) (law ks room) (after_goes_on most_levels ks (omega arith))

pub list_end_may_come : (r : Reader) (S : StandsFor) (takes : Takes) → ClosesAt a_list r.place → IsIn a_list (lists_of r)
    → JsonIsPlaced r S takes → MayTake S end_list
list_end_may_come r S takes (inl place) within placed =
    ends_may_come r S takes FirstEntry a_list end_list 93 place within placed (λ ks room. list_empty most_levels ks room)
list_end_may_come r S takes (inr place) within placed =
    ends_may_come r S takes After a_list end_list 93 place within placed (λ ks room. list_ends most_levels ks room)

pub object_end_may_come : (r : Reader) (S : StandsFor) (takes : Takes) → ClosesAt an_object r.place → IsIn an_object (lists_of r)
    → JsonIsPlaced r S takes → MayTake S end_object
object_end_may_come r S takes (inl place) within placed =
    ends_may_come r S takes FirstKey an_object end_object 125 place within placed (λ ks room. object_empty most_levels ks room)
object_end_may_come r S takes (inr place) within placed =
    ends_may_come r S takes After an_object end_object 125 place within placed (λ ks room. object_ends most_levels ks room)

-- behind a bracket the sink is placed as where a value must come
pub first_entry_placed : (r : Reader) (S : StandsFor) (takes : Takes) → JsonIsSound r → r.place ≡ FirstEntry
    → JsonIsPlaced r S takes → JsonIsPlaced (record r { place = Value }) S takes
first_entry_placed r S takes sound place placed =
    let (ks, is) = inside (lists_of r) a_list (kept_at r FirstEntry place sound) in
    let (es, stands, comes) = subst (λ p. IsPlaced (place_at r p) S) place placed.placed in
    record {
      takes_all = placed.takes_all;
      placed = (
        es,
        stands,
        λ s ts h. comes s ts (subst (λ ls. ValueComes most_levels ls s ts → FirstEntryComes most_levels ls s ts) (sym is)
            (first_entry_back most_levels ks s ts) h),
      );
    }
