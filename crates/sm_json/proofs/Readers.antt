-- What the steps of the reader do to it: the laws of the machine at readers. The answers cite these.
use Rattle.std.proofs.Common.{Result, Ok, Err, ◌≡◌, ◌≢◌, ℕ, ◌+◌, ◌≤◌, ◌<◌, inl, inr, false, List, [], ◌∷◌, None, Some, refl, sym, ap}
use Rattle.std.proofs.Common.{subst, ◌∙◌, arith, drop, length, lit<}
use Rattle.sm_tree.specs.Events.{NodeEvent, start_list, start_object, end_list, end_object}
use Rattle.sm_tree.specs.Building.{first_kind, IsIn}
use Rattle.sm_tree.specs.Streams.{StandsFor, Takes}
use Rattle.sm_tree.specs.declared.build.OpenKind.{OpenKind}
use Rattle.sm_tree.specs.declared.build.OpenKind.TheVariants.{List as a_list, Object as an_object}
use Rattle.sm_tree.specs.declared.refusal.SyntaxRefusal.{SyntaxRefusal}
use Rattle.sm_tree.specs.declared.refusal.SyntaxRefusal.TheVariants.{Bad, Ended, TooDeep, KeyKind, NoMemory}
use Rattle.sm_json.specs.Strings.{is_whitespace}
use Rattle.sm_tree.specs.NumberTail.{NumberLeads, NumberStops}
use Rattle.sm_tree.specs.Nested.{nested_in}
use Rattle.sm_tree.proofs.NestedRoom.{nested_room}
use Rattle.sm_json.specs.steps.StringReading.{string_so_far, IsAtStart}
use Rattle.sm_json.specs.steps.Rest.{value, first_entry, first_key, next_key, after, in_text, numeral, JsonState, letters, JsonLeads}
use Rattle.sm_tree.specs.Syntax.{most_levels}
use Rattle.sm_json.specs.steps.Machine.{where_of, lists_of, json_state, PlaceKeeps, JsonIsSound, LeadsTo, JsonGoes, Halts, Deepens}
use Rattle.sm_json.specs.steps.Machine.{JsonTakesByte, HasClosed, BeginsString, ClosesAt, first_letter}
use Rattle.sm_tree.specs.declared.number.Phase.{Phase}
use Rattle.sm_tree.specs.declared.number.Phase.TheVariants.{Start}
use Rattle.sm_json.specs.declared.spot.Spot.TheVariants.{Plain}
use Rattle.sm_json.specs.declared.text.TextReader.{TextReader}
use Rattle.sm_json.specs.declared.place.Literal.{Literal}
use Rattle.sm_json.specs.declared.place.Literal.TheVariants.{Null, True, False}
use Rattle.sm_json.specs.declared.place.JsonPlace.{JsonPlace}
use Rattle.sm_json.specs.declared.place.JsonPlace.TheVariants.{Value, FirstEntry, FirstKey, NextKey, Colon, After, Word, Number, Text}
use Rattle.sm_json.specs.declared.place.Role.{Role}
use Rattle.sm_json.specs.declared.place.Role.TheVariants.{Key, Value as Whole}
use Rattle.sm_json.specs.declared.read.Reader.{Reader}
use Rattle.sm_tree.proofs.Numbers.{completion, completes}
use Rattle.sm_json.proofs.Starts.{heads, StartsNumber, number_start}
use Rattle.sm_json.proofs.Opening.{at, list_opens, object_opens, list_too_deep, object_too_deep}
use Rattle.sm_json.proofs.Closing.{list_deeper, object_deeper}
use Rattle.sm_json.proofs.Leaves.{string_begins, word_begins, number_begins, value_stops}
use Rattle.sm_json.proofs.Between.{colon_leads, colon_stops, key_leads, first_key_leads, first_key_stops, first_key_back}
use Rattle.sm_json.proofs.Between.{object_empty, first_entry_leads, first_entry_stops, first_entry_back, list_empty}
use Rattle.sm_json.proofs.After.{list_goes_on, list_ends, list_stops, object_goes_on, object_ends, object_stops, end_stops}

-- the state of a reader whose place is known, and what it keeps there
abbrev pub place_at : Reader → JsonPlace → JsonState
place_at r p = at (where_of p r.number.items r.text.spot (string_so_far r.text)) (lists_of r)

pub leads_from : (r : Reader) (p : JsonPlace) (w : List ℕ) (out : List NodeEvent) (x : JsonState) → r.place ≡ p
    → LeadsTo (place_at r p) w out x
    → LeadsTo (json_state r) w out x
leads_from r p w out x e h = subst (λ q. LeadsTo (place_at r q) w out x) (sym e) h

pub stops_from : (r : Reader) (p : JsonPlace) (c : ℕ) → r.place ≡ p → Halts (place_at r p) c → Halts (json_state r) c
stops_from r p c e h = subst (λ q. Halts (place_at r q) c) (sym e) h

pub deepens_from : (r : Reader) (p : JsonPlace) (c : ℕ) → r.place ≡ p → Deepens (place_at r p) c → Deepens (json_state r) c
deepens_from r p c e h = subst (λ q. Deepens (place_at r q) c) (sym e) h

pub kept_at : (r : Reader) (p : JsonPlace) → r.place ≡ p → JsonIsSound r → PlaceKeeps p r.number.items (lists_of r)
kept_at r p e sound = subst (λ q. PlaceKeeps q r.number.items (lists_of r)) e sound

-- no more is open than there is room for
pub room_in : (r : Reader) (limit : ℕ) → most_levels ≤ limit → length (lists_of r) ≤ limit
room_in r limit up = let room = nested_room r.lists in omega arith

-- a step to another reader
steps : (r q : Reader) (p : JsonPlace) (w : List ℕ) (out : List NodeEvent) → r.place ≡ p → LeadsTo (place_at r p) w out (json_state q)
    → JsonIsSound q → JsonGoes r w out q
steps r q p w out e leads sound = record { leads = leads_from r p w out (json_state q) e leads; sound = sound }

-- `:`
pub colon_goes : (r : Reader) → r.place ≡ Colon → JsonGoes r (58 ∷ []) [] (record r { place = Value })
colon_goes r e = steps r (record r { place = Value }) Colon (58 ∷ []) [] e (λ limit up. colon_leads limit (lists_of r)) tt

pub colon_halts : (r : Reader) (c : ℕ) → r.place ≡ Colon → is_whitespace c ≡ false → c ≢ 58 → Halts (json_state r) c
colon_halts r c e w f = stops_from r Colon c e (λ limit. colon_stops limit c (lists_of r) w f)

-- `"`
at_start : (role : Role) (t : TextReader) (ks : List OpenKind) (x : JsonState) (w : List ℕ) → IsAtStart t
    → LeadsTo x w [] (at (in_text role Plain []) ks) → LeadsTo x w [] (at (in_text role t.spot (string_so_far t)) ks)
at_start role t ks x w (plain, none) h =
    subst (λ b. LeadsTo x w [] (at (in_text role t.spot b) ks)) (sym none)
    (subst (λ s. LeadsTo x w [] (at (in_text role s []) ks)) (sym plain) h)

pub text_goes : (r : Reader) (role : Role) (t : TextReader) → BeginsString role r.place → IsAtStart t
    → JsonGoes r (34 ∷ []) [] (record r { place = Text role; text = t })
text_goes r Key t e fresh =
    steps r (record r { place = Text Key; text = t }) NextKey (34 ∷ []) [] e
    (at_start Key t (lists_of r) (place_at r NextKey) (34 ∷ []) fresh (λ limit up. key_leads limit (lists_of r))) tt
text_goes r Whole t e fresh =
    steps r (record r { place = Text Whole; text = t }) Value (34 ∷ []) [] e
    (at_start Whole t (lists_of r) (place_at r Value) (34 ∷ []) fresh
    (λ limit up. string_begins limit (lists_of r) (room_in r limit up))) tt

-- `n`, `t` and `f`
word_keeps : (w : Literal) → 1 < length (letters w)
word_keeps Null = lit< tt
word_keeps True = lit< tt
word_keeps False = lit< tt

pub word_goes : (r : Reader) (w : Literal) → r.place ≡ Value
    → JsonGoes r (first_letter w ∷ []) [] (record r { place = Word w 1 })
word_goes r w e =
    steps r (record r { place = Word w 1 }) Value (first_letter w ∷ []) [] e
    (λ limit up. word_begins limit w (lists_of r) (room_in r limit up)) (word_keeps w)

-- `[` and `{`
pub list_goes : (r q : Reader) → r.place ≡ Value → q.place ≡ FirstEntry → lists_of q ≡ a_list ∷ lists_of r
    → JsonGoes r (91 ∷ []) (start_list None ∷ []) q
list_goes r q e place lists =
    steps r q Value (91 ∷ []) (start_list None ∷ []) e
    (subst (λ p. LeadsTo (place_at r Value) (91 ∷ []) (start_list None ∷ []) (place_at q p)) (sym place)
    (subst (λ ks. LeadsTo (place_at r Value) (91 ∷ []) (start_list None ∷ []) (at first_entry ks)) (sym lists)
    (λ limit up. list_opens limit (lists_of r))))
    (subst (λ p. PlaceKeeps p q.number.items (lists_of q)) (sym place) (subst (IsIn a_list) (sym lists) refl))

pub object_goes : (r q : Reader) → r.place ≡ Value → q.place ≡ FirstKey → lists_of q ≡ an_object ∷ lists_of r
    → JsonGoes r (123 ∷ []) (start_object None ∷ []) q
object_goes r q e place lists =
    steps r q Value (123 ∷ []) (start_object None ∷ []) e
    (subst (λ p. LeadsTo (place_at r Value) (123 ∷ []) (start_object None ∷ []) (place_at q p)) (sym place)
    (subst (λ ks. LeadsTo (place_at r Value) (123 ∷ []) (start_object None ∷ []) (at first_key ks)) (sym lists)
    (λ limit up. object_opens limit (lists_of r))))
    (subst (λ p. PlaceKeeps p q.number.items (lists_of q)) (sym place) (subst (IsIn an_object) (sym lists) refl))

pub list_deepens : (r : Reader) → r.place ≡ Value → most_levels ≤ length (lists_of r) → Deepens (json_state r) 91
list_deepens r e deep = deepens_from r Value 91 e (record {
  stops = list_too_deep most_levels (lists_of r) deep;
  deeper = list_deeper most_levels (lists_of r) (room_in r most_levels (omega arith));
})

pub object_deepens : (r : Reader) → r.place ≡ Value → most_levels ≤ length (lists_of r) → Deepens (json_state r) 123
object_deepens r e deep = deepens_from r Value 123 e (record {
  stops = object_too_deep most_levels (lists_of r) deep;
  deeper = object_deeper most_levels (lists_of r) (room_in r most_levels (omega arith));
})

-- the innermost of what is open
pub first_is : (ks : List OpenKind) (k : OpenKind) → first_kind ks ≡ Some k → IsIn k ks
first_is [] k e = absurd (cc e)
first_is (j ∷ ks) k e = cc e

pub inside : (ls : List OpenKind) (k : OpenKind) → IsIn k ls → (ks : List OpenKind) × (ls ≡ k ∷ ks)
inside [] k h = absurd h
inside (j ∷ ks) k h = (ks, ap (λ x. x ∷ ks) h)

-- a list or an object ends, at its place p, with the byte c and the event e
left_behind : (ls : List OpenKind) (k : OpenKind) → IsIn k ls → ls ≡ k ∷ drop 1 ls
left_behind ls k h = let (ks, is) = inside ls k h in is ∙ ap (λ x. k ∷ drop 1 x) (sym is)

ends_at : (r q : Reader) (p : JsonPlace) (k : OpenKind) (e : NodeEvent) (c : ℕ) → r.place ≡ p → IsIn k (lists_of r) → HasClosed r q
    → ((limit : ℕ) (ks : List OpenKind) → length (k ∷ ks) ≤ limit
    → JsonLeads limit (at (where_of p r.number.items r.text.spot (string_so_far r.text)) (k ∷ ks)) (c ∷ []) (e ∷ []) (at after ks))
    → JsonGoes r (c ∷ []) (e ∷ []) q
ends_at r q p k e c place within closed law =
    let lists : lists_of r ≡ k ∷ lists_of q = left_behind (lists_of r) k within ∙ ap (λ ks. k ∷ ks) (sym closed.lists) in
    steps r q p (c ∷ []) (e ∷ []) place
    (subst (λ x. LeadsTo (place_at r p) (c ∷ []) (e ∷ []) (place_at q x)) (sym closed.place)
    (subst (λ ls. LeadsTo (at (where_of p r.number.items r.text.spot (string_so_far r.text)) ls) (c ∷ []) (e ∷ []) (at after (lists_of q)))
    (sym lists)
    (λ limit up. law limit (lists_of q) (subst (λ ls. length ls ≤ limit) lists (room_in r limit up)))))
    (subst (λ x. PlaceKeeps x q.number.items (lists_of q)) (sym closed.place) tt)

pub list_closes : (r q : Reader) → ClosesAt a_list r.place → IsIn a_list (lists_of r) → HasClosed r q
    → JsonGoes r (93 ∷ []) (end_list ∷ []) q
list_closes r q (inl place) within closed = ends_at r q FirstEntry a_list end_list 93 place within closed list_empty
list_closes r q (inr place) within closed = ends_at r q After a_list end_list 93 place within closed list_ends

pub object_closes : (r q : Reader) → ClosesAt an_object r.place → IsIn an_object (lists_of r) → HasClosed r q
    → JsonGoes r (125 ∷ []) (end_object ∷ []) q
object_closes r q (inl place) within closed = ends_at r q FirstKey an_object end_object 125 place within closed object_empty
object_closes r q (inr place) within closed = ends_at r q After an_object end_object 125 place within closed object_ends

-- behind an entry and behind a pair: a comma
pub entry_goes : (r : Reader) → r.place ≡ After → IsIn a_list (lists_of r) → JsonGoes r (44 ∷ []) [] (record r { place = Value })
entry_goes r place h =
    let (ks, e) = inside (lists_of r) a_list h in
    steps r (record r { place = Value }) After (44 ∷ []) [] place
    (subst (λ ls. LeadsTo (at after ls) (44 ∷ []) [] (at value ls)) (sym e) (λ limit up. list_goes_on limit ks)) tt

pub pair_goes : (r : Reader) → r.place ≡ After → IsIn an_object (lists_of r) → JsonGoes r (44 ∷ []) [] (record r { place = NextKey })
pair_goes r place h =
    let (ks, e) = inside (lists_of r) an_object h in
    steps r (record r { place = NextKey }) After (44 ∷ []) [] place
    (subst (λ ls. LeadsTo (at after ls) (44 ∷ []) [] (at next_key ls)) (sym e) (λ limit up. object_goes_on limit ks)) tt

pub entry_halts : (r : Reader) (c : ℕ) → r.place ≡ After → IsIn a_list (lists_of r) → is_whitespace c ≡ false → c ≢ 44 → c ≢ 93
    → Halts (json_state r) c
entry_halts r c place h w f g =
    let (ks, e) = inside (lists_of r) a_list h in
    stops_from r After c place (subst (λ ls. Halts (at after ls) c) (sym e) (λ limit. list_stops limit c ks w f g))

pub pair_halts : (r : Reader) (c : ℕ) → r.place ≡ After → IsIn an_object (lists_of r) → is_whitespace c ≡ false → c ≢ 44 → c ≢ 125
    → Halts (json_state r) c
pair_halts r c place h w f g =
    let (ks, e) = inside (lists_of r) an_object h in
    stops_from r After c place (subst (λ ls. Halts (at after ls) c) (sym e) (λ limit. object_stops limit c ks w f g))

pub nothing_open : (ls : List OpenKind) → first_kind ls ≡ None → ls ≡ []
nothing_open [] e = refl
nothing_open (j ∷ ls) e = absurd (cc e)

pub end_halts : (r : Reader) (c : ℕ) → r.place ≡ After → first_kind (lists_of r) ≡ None → is_whitespace c ≡ false → Halts (json_state r) c
end_halts r c place none w =
    stops_from r After c place (subst (λ ls. Halts (at after ls) c) (sym (nothing_open (lists_of r) none)) (λ limit. end_stops limit c w))

-- behind a bracket a byte does what it does where a value must come, and behind a brace what it does where a
-- name must come, unless it ends the list or the object
first_entry_halts : (r : Reader) (c : ℕ) → JsonIsSound r → r.place ≡ FirstEntry → is_whitespace c ≡ false → c ≢ 93
    → Halts (place_at r Value) c → Halts (json_state r) c
first_entry_halts r c sound place w f h =
    let (ks, e) = inside (lists_of r) a_list (kept_at r FirstEntry place sound) in
    stops_from r FirstEntry c place (subst (λ ls. Halts (at value ls) c → Halts (at first_entry ls) c) (sym e)
    (λ halts limit. first_entry_stops limit c ks w f (halts limit)) h)

first_entry_deeper : (c : ℕ) (ks : List OpenKind) → is_whitespace c ≡ false → c ≢ 93 → Deepens (at value (a_list ∷ ks)) c
    → Deepens (at first_entry (a_list ∷ ks)) c
first_entry_deeper c ks w f h = record {
  stops = first_entry_stops most_levels c ks w f h.stops;
  deeper = let (s, es, rest) = h.deeper in (s, es, first_entry_back (most_levels + 1) ks (c ∷ s) es rest);
}

first_entry_deepens : (r : Reader) (c : ℕ) → JsonIsSound r → r.place ≡ FirstEntry → is_whitespace c ≡ false → c ≢ 93
    → Deepens (at value (lists_of r)) c → Deepens (json_state r) c
first_entry_deepens r c sound place w f h =
    let (ks, e) = inside (lists_of r) a_list (kept_at r FirstEntry place sound) in
    deepens_from r FirstEntry c place (subst (λ ls. Deepens (at value ls) c → Deepens (at first_entry ls) c) (sym e)
    (first_entry_deeper c ks w f) h)

pub first_entry_takes : (r q : Reader) (S T : StandsFor) (takes : Takes) (c : ℕ) (result : Result (Unit {0}) SyntaxRefusal)
    → JsonIsSound r → r.place ≡ FirstEntry
    → is_whitespace c ≡ false → c ≢ 93
    → JsonTakesByte (record r { place = Value }) S c q T takes result → JsonTakesByte r S c q T takes result
first_entry_takes r q S T takes c (Ok x) sound place w f h =
    let (ks, e) = inside (lists_of r) a_list (kept_at r FirstEntry place sound) in
    record {
      out = h.out;
      goes = record {
        leads = leads_from r FirstEntry (c ∷ []) h.out (json_state q) place
            (subst (λ ls. LeadsTo (at value ls) (c ∷ []) h.out (json_state q) → LeadsTo (at first_entry ls) (c ∷ []) h.out (json_state q))
            (sym e)
            (λ on limit up. first_entry_leads limit c ks h.out (json_state q) w f (on limit up)) h.goes.leads);
        sound = h.goes.sound;
      };
      hands = h.hands;
      takes_all = h.takes_all;
    }
first_entry_takes r q S T takes c (Err NoMemory) sound place w f h = tt
first_entry_takes r q S T takes c (Err (Bad at_)) sound place w f h = (h.0, first_entry_halts r c sound place w f h.1, h.2)
first_entry_takes r q S T takes c (Err Ended) sound place w f h = h
first_entry_takes r q S T takes c (Err (TooDeep at_)) sound place w f h = (h.0, first_entry_deepens r c sound place w f h.1, h.2)
first_entry_takes r q S T takes c (Err (KeyKind at_)) sound place w f h = h

first_key_halts : (r : Reader) (c : ℕ) → JsonIsSound r → r.place ≡ FirstKey → is_whitespace c ≡ false → c ≢ 125
    → Halts (place_at r NextKey) c → Halts (json_state r) c
first_key_halts r c sound place w f h =
    let (ks, e) = inside (lists_of r) an_object (kept_at r FirstKey place sound) in
    stops_from r FirstKey c place (subst (λ ls. Halts (at next_key ls) c → Halts (at first_key ls) c) (sym e)
    (λ halts limit. first_key_stops limit c ks w f (halts limit)) h)

first_key_deeper : (c : ℕ) (ks : List OpenKind) → is_whitespace c ≡ false → c ≢ 125 → Deepens (at next_key (an_object ∷ ks)) c
    → Deepens (at first_key (an_object ∷ ks)) c
first_key_deeper c ks w f h = record {
  stops = first_key_stops most_levels c ks w f h.stops;
  deeper = let (s, es, rest) = h.deeper in (s, es, first_key_back (most_levels + 1) ks (c ∷ s) es rest);
}

first_key_deepens : (r : Reader) (c : ℕ) → JsonIsSound r → r.place ≡ FirstKey → is_whitespace c ≡ false → c ≢ 125
    → Deepens (at next_key (lists_of r)) c → Deepens (json_state r) c
first_key_deepens r c sound place w f h =
    let (ks, e) = inside (lists_of r) an_object (kept_at r FirstKey place sound) in
    deepens_from r FirstKey c place (subst (λ ls. Deepens (at next_key ls) c → Deepens (at first_key ls) c) (sym e)
    (first_key_deeper c ks w f) h)

pub first_key_takes : (r q : Reader) (S T : StandsFor) (takes : Takes) (c : ℕ) (result : Result (Unit {0}) SyntaxRefusal)
    → JsonIsSound r → r.place ≡ FirstKey
    → is_whitespace c ≡ false → c ≢ 125
    → JsonTakesByte (record r { place = NextKey }) S c q T takes result → JsonTakesByte r S c q T takes result
first_key_takes r q S T takes c (Ok x) sound place w f h =
    let (ks, e) = inside (lists_of r) an_object (kept_at r FirstKey place sound) in
    record {
      out = h.out;
      goes = record {
        leads = leads_from r FirstKey (c ∷ []) h.out (json_state q) place
            (subst (λ ls. LeadsTo (at next_key ls) (c ∷ []) h.out (json_state q) → LeadsTo (at first_key ls) (c ∷ []) h.out (json_state q))
            (sym e)
            (λ on limit up. first_key_leads limit c ks h.out (json_state q) w f (on limit up)) h.goes.leads);
        sound = h.goes.sound;
      };
      hands = h.hands;
      takes_all = h.takes_all;
    }
first_key_takes r q S T takes c (Err NoMemory) sound place w f h = tt
first_key_takes r q S T takes c (Err (Bad at_)) sound place w f h = (h.0, first_key_halts r c sound place w f h.1, h.2)
first_key_takes r q S T takes c (Err Ended) sound place w f h = h
first_key_takes r q S T takes c (Err (TooDeep at_)) sound place w f h = (h.0, first_key_deepens r c sound place w f h.1, h.2)
first_key_takes r q S T takes c (Err (KeyKind at_)) sound place w f h = h

-- a number begins
starts_of : (c : ℕ) (phase : Phase) → NumberLeads Start (c ∷ []) phase → StartsNumber c
starts_of c phase h =
    let (d, u, e, x) = number_start (c ∷ completion phase) (h.back (completion phase) (completes phase)) in
    subst StartsNumber (sym (heads c d (completion phase) u e)) x

pub number_goes : (r q : Reader) (c : ℕ) (phase : Phase) → r.place ≡ Value → is_whitespace c ≡ false → NumberLeads Start (c ∷ []) phase
    → q.place ≡ Number phase → q.number.items ≡ c ∷ [] → q.lists ≡ r.lists → JsonGoes r (c ∷ []) [] q
number_goes r q c phase place w starts there kept lists =
    steps r q Value (c ∷ []) [] place
    (subst (λ p. LeadsTo (place_at r Value) (c ∷ []) [] (place_at q p)) (sym there)
    (subst (λ b. LeadsTo (place_at r Value) (c ∷ []) [] (at (numeral b) (lists_of q))) (sym kept)
    (subst (λ n. LeadsTo (place_at r Value) (c ∷ []) [] (at (numeral (c ∷ [])) (nested_in n))) (sym lists)
    (λ limit up. number_begins limit c (lists_of r) (room_in r limit up) w (starts_of c phase starts)))))
    (subst (λ p. PlaceKeeps p q.number.items (lists_of q)) (sym there) (subst (λ b. NumberLeads Start b phase) (sym kept) starts))

pub value_halts : (r : Reader) (c : ℕ) → r.place ≡ Value → is_whitespace c ≡ false → c ≢ 34 → c ≢ 91 → c ≢ 123 → c ≢ 110 → c ≢ 116 → c ≢ 102
    → NumberStops Start c → Halts (json_state r) c
value_halts r c place w q b o n t f stop = stops_from r Value c place (λ limit. value_stops limit c (lists_of r) w q b o n t f stop)
