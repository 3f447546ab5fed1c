-- From each reader between two bytes some text that is read goes on. So a byte that it refuses is the first with
-- which none goes on, and refusals are carried from a reader to an earlier one.
use Rattle.std.proofs.Common.{◌≡◌, ℕ, ◌+◌, ◌≤◌, ◌<◌, List, [], ◌∷◌, ◌++◌, refl, sym, ap, subst, ◌∙◌, arith, length, take, drop, get_or}
use Rattle.std.proofs.Common.{append_assoc, length-drop}
use Rattle.std.proofs.Math.Seq.{take-add}
use Rattle.std.proofs.lemmas.List.{drop_more}
use Rattle.sm_tree.specs.Events.{NodeEvent}
use Rattle.sm_tree.specs.Syntax.{most_levels}
use Rattle.sm_tree.specs.declared.build.OpenKind.TheVariants.{List as a_list, Object as an_object}
use Rattle.sm_json.specs.steps.Rest.{first_entry, first_key, JsonState, JsonRest, JsonGoesOn}
use Rattle.sm_json.specs.steps.StringReading.{string_so_far}
use Rattle.sm_json.specs.steps.Machine.{lists_of, json_state, JsonIsSound, JsonGoes, Halts, Deepens, HaltsAt, DeepensAt}
use Rattle.sm_json.specs.declared.place.JsonPlace.{JsonPlace}
use Rattle.sm_json.specs.declared.place.JsonPlace.TheVariants.{Value, FirstEntry, FirstKey, NextKey, Colon, After, Word, Number, Text}
use Rattle.sm_json.specs.declared.read.Reader.{Reader}
use Rattle.sm_tree.proofs.Numbers.{completion, completes}
use Rattle.sm_json.proofs.Opening.{at}
use Rattle.sm_json.proofs.Closing.{after_goes_on, value_goes_on, colon_goes_on, next_key_goes_on, first_entry_goes_on, first_key_goes_on}
use Rattle.sm_json.proofs.Closing.{word_goes_on, numeral_goes_on, text_goes_on}
use Rattle.sm_json.proofs.Readers.{place_at, kept_at, room_in, inside}

-- at each place
goes_on_from : (r : Reader) (p : JsonPlace) → r.place ≡ p → JsonGoesOn most_levels (place_at r p) []
    → JsonGoesOn most_levels (json_state r) []
goes_on_from r p e h = subst (λ q. JsonGoesOn most_levels (place_at r q) []) (sym e) h

room_of : (r : Reader) → length (lists_of r) ≤ most_levels
room_of r = room_in r most_levels (omega arith)

goes_on_at : (r : Reader) (p : JsonPlace) → r.place ≡ p → JsonIsSound r → JsonGoesOn most_levels (json_state r) []
goes_on_at r Value e sound = goes_on_from r Value e (value_goes_on most_levels (lists_of r) (room_of r))
goes_on_at r FirstEntry e sound =
    let (ks, is) = inside (lists_of r) a_list (kept_at r FirstEntry e sound) in
    goes_on_from r FirstEntry e
    (subst (λ ls. length ls ≤ most_levels → JsonGoesOn most_levels (at first_entry ls) []) (sym is) (first_entry_goes_on most_levels ks)
    (room_of r))
goes_on_at r FirstKey e sound =
    let (ks, is) = inside (lists_of r) an_object (kept_at r FirstKey e sound) in
    goes_on_from r FirstKey e
    (subst (λ ls. length ls ≤ most_levels → JsonGoesOn most_levels (at first_key ls) []) (sym is) (first_key_goes_on most_levels ks)
    (room_of r))
goes_on_at r NextKey e sound = goes_on_from r NextKey e (next_key_goes_on most_levels (lists_of r) (room_of r))
goes_on_at r Colon e sound = goes_on_from r Colon e (colon_goes_on most_levels (lists_of r) (room_of r))
goes_on_at r After e sound = goes_on_from r After e (after_goes_on most_levels (lists_of r) (room_of r))
goes_on_at r (Word w taken) e sound = goes_on_from r (Word w taken) e (word_goes_on most_levels w taken (lists_of r) (room_of r))
goes_on_at r (Number phase) e sound =
    let number = (kept_at r (Number phase) e sound).back (completion phase) (completes phase) in
    goes_on_from r (Number phase) e (numeral_goes_on most_levels r.number.items (completion phase) (lists_of r) number (room_of r))
goes_on_at r (Text role) e sound =
    goes_on_from r (Text role) e (text_goes_on most_levels role r.text.spot (string_so_far r.text) (lists_of r) r.text.live
    (room_of r))

pub reader_goes_on : (r : Reader) → JsonIsSound r → JsonGoesOn most_levels (json_state r) []
reader_goes_on r sound = goes_on_at r r.place refl sound

-- what goes on from a reader goes on from an earlier one, and the other way round
pub on_back : {out : List NodeEvent} (r q : Reader) (w v : List ℕ) (limit : ℕ) → JsonGoes r w out q → most_levels ≤ limit
    → JsonGoesOn limit (json_state q) v
    → JsonGoesOn limit (json_state r) (w ++ v)
on_back r q w v limit goes up (s, ts, rest) =
    let (os, hands, rest1) = (goes.leads limit up).back (v ++ s) ts rest in
    (s, os ++ ts, subst (λ u. JsonRest limit (json_state r) u (os ++ ts)) (sym (append_assoc w v s)) rest1)

pub on_onward : {out : List NodeEvent} (r q : Reader) (w v : List ℕ) (limit : ℕ) → JsonGoes r w out q → most_levels ≤ limit
    → JsonGoesOn limit (json_state r) (w ++ v)
    → JsonGoesOn limit (json_state q) v
on_onward r q w v limit goes up (s, ts, rest) =
    let (os, us, e, hands, rest1) = (goes.leads limit up).onward (v ++ s) ts
    (subst (λ u. JsonRest limit (json_state r) u ts) (append_assoc w v s) rest) in (s, us, rest1)

-- a refusal of some bytes, behind those that led there
front_add : (i p : ℕ) (bs : List ℕ) → take (i + p + 1) bs ≡ take i bs ++ take (p + 1) (drop i bs)
front_add i p bs =
    let same : i + p + 1 ≡ i + (p + 1) = omega arith in ap (λ n. take n bs) same ∙ take-add i (p + 1) bs

pub halts_then : {out : List NodeEvent} (r q : Reader) (bs : List ℕ) (i p : ℕ) → JsonGoes r (take i bs) out q
    → HaltsAt (json_state q) (drop i bs) p
    → HaltsAt (json_state r) bs (i + p)
halts_then r q bs i p goes h = record {
  inside = omega (arith, h.inside, length-drop i bs);
  before = subst (JsonGoesOn most_levels (json_state r)) (sym (take-add i p bs))
      (on_back r q (take i bs) (take p (drop i bs)) most_levels goes (omega arith) h.before);
  behind = λ limit up g. h.behind limit up
      (on_onward r q (take i bs) (take (p + 1) (drop i bs)) limit goes up (subst (JsonGoesOn limit (json_state r)) (front_add i p bs) g));
}

pub deepens_then : {out : List NodeEvent} (r q : Reader) (bs : List ℕ) (i p : ℕ) → JsonGoes r (take i bs) out q
    → DeepensAt (json_state q) (drop i bs) p
    → DeepensAt (json_state r) bs (i + p)
deepens_then r q bs i p goes h = record {
  inside = omega (arith, h.inside, length-drop i bs);
  before = subst (JsonGoesOn most_levels (json_state r)) (sym (take-add i p bs))
      (on_back r q (take i bs) (take p (drop i bs)) most_levels goes (omega arith) h.before);
  deeper = subst (JsonGoesOn (most_levels + 1) (json_state r)) (sym (front_add i p bs))
      (on_back r q (take i bs) (take (p + 1) (drop i bs)) (most_levels + 1) goes (omega arith) h.deeper);
  stops = λ g. h.stops (on_onward r q (take i bs) (take (p + 1) (drop i bs)) most_levels goes (omega arith)
      (subst (JsonGoesOn most_levels (json_state r)) (front_add i p bs) g));
}

-- a byte that is refused is the first of the bytes from it on
halts_here : (x : JsonState) (c : ℕ) (bs : List ℕ) → JsonGoesOn most_levels x [] → Halts x c → HaltsAt x (c ∷ bs) 0
halts_here x c bs before halts = record { inside = omega arith; before = before; behind = λ limit up g. halts limit g.0 g.1 g.2 }

deepens_here : (x : JsonState) (c : ℕ) (bs : List ℕ) → JsonGoesOn most_levels x [] → Deepens x c → DeepensAt x (c ∷ bs) 0
deepens_here x c bs before deep =
    record { inside = omega arith; before = before; deeper = deep.deeper; stops = λ g. deep.stops g.0 g.1 g.2 }

pub halts_at : {out : List NodeEvent} (r q : Reader) (bs : List ℕ) (i : ℕ) → i < length bs → JsonGoes r (take i bs) out q
    → Halts (json_state q) (get_or bs i 0)
    → HaltsAt (json_state r) bs (i + 0)
halts_at r q bs i inside goes halts =
    halts_then r q bs i 0 goes
    (subst (λ ws. HaltsAt (json_state q) ws 0) (sym (drop_more bs i 0 inside))
    (halts_here (json_state q) (get_or bs i 0) (drop (i + 1) bs) (reader_goes_on q goes.sound) halts))

pub deepens_at : {out : List NodeEvent} (r q : Reader) (bs : List ℕ) (i : ℕ) → i < length bs → JsonGoes r (take i bs) out q
    → Deepens (json_state q) (get_or bs i 0)
    → DeepensAt (json_state r) bs (i + 0)
deepens_at r q bs i inside goes deep =
    deepens_then r q bs i 0 goes
    (subst (λ ws. DeepensAt (json_state q) ws 0) (sym (drop_more bs i 0 inside))
    (deepens_here (json_state q) (get_or bs i 0) (drop (i + 1) bs) (reader_goes_on q goes.sound) deep))
