-- What runs of bytes do to a reader: whitespace, numbers and strings, one run behind another, and the end of
-- the bytes. The answers of the reader's turns cite these.
use Rattle.std.specs.Prelude.{Bool, IsTrue, ◌↔◌}
use Rattle.std.proofs.Common.{Result, Ok, Err, false, ◌≡◌, ◌≢◌, ℕ, ◌+◌, ◌-◌, ◌≤◌, ◌<◌, ◌⊎◌, inl, inr, true, List, [], ◌∷◌, ◌++◌, refl}
use Rattle.std.proofs.Common.{sym, ap, subst, ◌∙◌, arith, length, take, drop, get_or, append-nil, length-drop}
use Rattle.std.proofs.Math.Seq.{take-add}
use Rattle.std.proofs.lemmas.List.{take_more, drop_more, take-take, take_all, drop_all}
use Rattle.sm_tree.proofs.ListEnds.{rest_of}
use Rattle.sm_tree.specs.Node.{Node}
use Rattle.sm_tree.specs.declared.build.OpenKind.{OpenKind}
use Rattle.sm_tree.specs.Nested.{nested_in}
use Rattle.sm_tree.specs.steps.Handing.{TakesAll}
use Rattle.sm_tree.proofs.Handing.{takes_none, takes_both}
use Rattle.sm_json.specs.steps.Feeding.{IsPlaced}
use Rattle.sm_json.proofs.Feeding.{placed_on, event_placed}
use Rattle.sm_tree.specs.Numbers.{IsNumber, NumberText}
use Rattle.sm_tree.specs.Events.{NodeEvent, events, key_event, text_event}
use Rattle.sm_tree.specs.Timing.{TimedEvent}
use Rattle.sm_tree.specs.Streams.{StandsFor, Takes, TakesEvery, TakesSame, TakesOn, MayTake}
use Rattle.sm_tree.specs.declared.refusal.SyntaxRefusal.{SyntaxRefusal}
use Rattle.sm_tree.specs.declared.refusal.SyntaxRefusal.TheVariants.{Bad, Ended, TooDeep, KeyKind, NoMemory}
use Rattle.sm_json.specs.Strings.{is_whitespace}
use Rattle.sm_tree.specs.NumberTail.{NumberTail, AreNumberBytes, NumberLeads, NumberStops}
use Rattle.sm_json.specs.steps.TextRest.{TextRest}
use Rattle.sm_json.specs.steps.StringReading.{string_so_far, ReadsOn, ReadsWhole, ReadsString}
use Rattle.sm_json.specs.declared.text.TextReader.{TextReader}
use Rattle.sm_json.specs.declared.text.TextRefusal.{TextRefusal}
use Rattle.sm_json.specs.declared.text.TextRefusal.TheVariants.{Bad as BadString, NoMemory as NoRoom}
use Rattle.sm_json.specs.declared.place.Role.{Role}
use Rattle.sm_json.specs.declared.place.Role.TheVariants.{Key, Value as Whole}
use Rattle.sm_json.specs.steps.Rest.{Where, after, colon, letters, literal_event, numeral, JsonRest, JsonGoesOn, JsonStops}
use Rattle.sm_tree.specs.Syntax.{most_levels}
use Rattle.sm_json.specs.steps.Machine.{where_of, lists_of, json_state, PlaceKeeps, JsonIsSound, LeadsTo, JsonIsPlaced, JsonGoes}
use Rattle.sm_json.specs.steps.Machine.{JsonBrings, JsonKeeps, JsonBringsTo, JsonStepsByte, JsonEndsText, JsonMayEnd, Halts, HaltsAt}
use Rattle.sm_json.specs.steps.Machine.{DeepensAt, JsonTakesByte, JsonTakesPrefix, JsonTakesAll, TakesWhitespace, AllWhitespace, Grows}
use Rattle.sm_json.specs.steps.Machine.{HandsNumber, HandsText, behind_text, text_event_of, as_syntax}
use Rattle.sm_tree.specs.Refusal.{moved_by, IsWithin}
use Rattle.sm_tree.specs.declared.number.Phase.{Phase}
use Rattle.sm_tree.specs.declared.number.Phase.TheVariants.{Start}
use Rattle.sm_tree.specs.declared.number.Run.{Run}
use Rattle.sm_json.specs.declared.place.Literal.{Literal}
use Rattle.sm_json.specs.declared.place.JsonPlace.{JsonPlace}
use Rattle.sm_json.specs.declared.place.JsonPlace.TheVariants.{Value, FirstEntry, FirstKey, NextKey, Colon, After, Word, Number, Text}
use Rattle.sm_json.specs.declared.read.Reader.{Reader}
use Rattle.sm_tree.proofs.Numbers.{one_node, number_exists, number_from_whole, whole_from_number}
use Rattle.sm_tree.proofs.NumberRuns.{prefix_grows, leads_joined as numbers_joined}
use Rattle.sm_json.proofs.Opening.{at}
use Rattle.sm_json.proofs.Closing.{after_goes_on, colon_goes_on}
use Rattle.sm_json.proofs.Leaves.{number_is}
use Rattle.sm_json.proofs.White.{white_leads, whites_lead}
use Rattle.sm_json.proofs.Within.{number_over, number_bytes_lead, number_ends, number_stops, number_last, number_last_is, nothing_ends}
use Rattle.sm_json.proofs.Within.{string_goes, key_closes, text_closes, letter_leads, word_ends, word_stops, string_no_rest, token_owed}
use Rattle.sm_json.proofs.Within.{word_owed, IsOwed}
use Rattle.sm_json.proofs.Owed.{string_owed}
use Rattle.sm_json.proofs.Whole.{leads_none, leads_joined}
use Rattle.sm_json.proofs.Readers.{place_at, leads_from, stops_from, kept_at, room_in, inside}
use Rattle.sm_json.proofs.Onward.{reader_goes_on, on_back, halts_then, deepens_then, halts_at, deepens_at}

-- one step behind another
pub goes_joined : {out more : List NodeEvent} (r q x : Reader) (v w : List ℕ) → JsonGoes r v out q → JsonGoes q w more x
    → JsonGoes r (v ++ w) (out ++ more) x
goes_joined {out} {more} r q x v w h g = record {
  leads = λ limit up. leads_joined limit (json_state r) (json_state q) (json_state x) v w out more (h.leads limit up) (g.leads limit up);
  sound = g.sound;
}

pub feeds_joined : (r q x : Reader) (S T U : StandsFor) (before behind : Takes) (v w : List ℕ) → JsonBrings r S v q T before
    → JsonBrings q T w x U behind → JsonBrings r S (v ++ w) x U behind
feeds_joined r q x S T U before behind v w h g = record {
  out = h.out ++ g.out;
  goes = goes_joined r q x v w h.goes g.goes;
  hands = takes_both S T U h.out g.out h.hands g.hands;
  takes_all = g.takes_all;
}

pub goes_nowhere : (r : Reader) → JsonIsSound r → JsonGoes r [] [] r
goes_nowhere r sound = record { leads = λ limit up. leads_none limit (json_state r); sound = sound }

pub feeds_nowhere : (r : Reader) (S : StandsFor) (takes : Takes) → JsonIsSound r → JsonIsPlaced r S takes
    → JsonBrings r S [] r S takes
feeds_nowhere r S takes sound placed =
    record { out = []; goes = goes_nowhere r sound; hands = takes_none S; takes_all = placed.takes_all }

-- a step that hands nothing on, and one that hands an event on
pub feeds_nothing : (r q : Reader) (S : StandsFor) (takes : Takes) (w : List ℕ) → JsonIsPlaced r S takes → JsonGoes r w [] q
    → JsonBrings r S w q S takes
feeds_nothing r q S takes w placed goes = record { out = []; goes = goes; hands = takes_none S; takes_all = placed.takes_all }

pub feeds_byte : (r q : Reader) (S : StandsFor) (takes : Takes) (c : ℕ) (result : Result (Unit {0}) SyntaxRefusal)
    → TakesEvery takes → JsonStepsByte r c q result → JsonTakesByte r S c q S takes result
feeds_byte r q S takes c (Ok x) all h = record { out = []; goes = h; hands = takes_none S; takes_all = all }
feeds_byte r q S takes c (Err NoMemory) all h = tt
feeds_byte r q S takes c (Err (Bad p)) all h = (h.0, h.1, record { stands = takes_none S; takes_all = all })
feeds_byte r q S takes c (Err Ended) all h = h
feeds_byte r q S takes c (Err (TooDeep p)) all h = absurd h
feeds_byte r q S takes c (Err (KeyKind p)) all h = h

pub feeds_event : (r q : Reader) (S T : StandsFor) (takes before : Takes) (w : List ℕ) (e : NodeEvent) → JsonIsPlaced r S before
    → JsonGoes r w (e ∷ []) q → TakesOn S e T → TakesSame before takes → JsonBrings r S w q T takes
feeds_event r q S T takes before w e placed goes taken same =
    record { out = e ∷ []; goes = goes; hands = taken; takes_all = λ d. same d (placed.takes_all d) }

-- a step that was refused leaves the sink as it was
pub keeps : (r : Reader) (S : StandsFor) (takes : Takes) → JsonIsPlaced r S takes → JsonKeeps S S takes
keeps r S takes placed = record { stands = takes_none S; takes_all = placed.takes_all }

-- the sink is placed behind a step, and may be brought the event that a step completes
pub fed_placed : (r q : Reader) (S T : StandsFor) (before behind : Takes) (w : List ℕ) → JsonIsPlaced r S before
    → JsonBrings r S w q T behind → JsonIsPlaced q T behind
fed_placed r q S T before behind w placed feeds = record {
  takes_all = feeds.takes_all;
  placed = placed_on (json_state r) (json_state q) w S T feeds.out placed.placed (feeds.goes.leads most_levels (omega arith))
      (reader_goes_on q feeds.goes.sound) feeds.hands;
}

pub event_may_come : (r q : Reader) (S : StandsFor) (takes : Takes) (w : List ℕ) (e : NodeEvent) (out : List NodeEvent)
    → JsonIsPlaced r S takes → JsonGoes r w (e ∷ out) q → MayTake S e
event_may_come r q S takes w e out placed goes =
    event_placed (json_state r) (json_state q) w S e out placed.placed (goes.leads most_levels (omega arith)) (reader_goes_on q goes.sound)

-- whitespace
pub takes_white_after : (r : Reader) → r.place ≡ After → TakesWhitespace (json_state r).place
takes_white_after r e = subst (λ p. TakesWhitespace (where_of p r.number.items r.text.spot (string_so_far r.text))) (sym e) tt

pub white_goes : (r : Reader) (c : ℕ) → JsonIsSound r → TakesWhitespace (json_state r).place → is_whitespace c ≡ true
    → JsonGoes r (c ∷ []) [] r
white_goes r c sound p w = record { leads = λ limit up. white_leads limit (json_state r) c p w; sound = sound }

pub white_run_goes : (r : Reader) (bs : List ℕ) (k : ℕ) → JsonIsSound r → TakesWhitespace (json_state r).place → 0 < length bs
    → k ≤ length bs - 1
    → is_whitespace (get_or bs 0 0) ≡ true → AllWhitespace (take k (take (length bs - 1) (drop 1 bs))) → JsonGoes r (take (1 + k) bs) [] r
white_run_goes r bs k sound p some few here more =
    subst (λ ws. JsonGoes r ws [] r) (sym (prefix_grows bs 0 k some few)) (record {
      leads = λ limit up. whites_lead limit (json_state r) (get_or bs 0 0 ∷ take k (take (length bs - 1) (drop 1 bs))) p (here, more);
      sound = sound;
    })

-- a byte that is refused behind those that led there, and the first byte
fed_to : (r q : Reader) (S T : StandsFor) (takes : Takes) (bs : List ℕ) (i p : ℕ) → p ≡ 0 → JsonGoes r (take i bs) [] q
    → JsonKeeps S T takes
    → JsonBringsTo r S bs (i + p) T takes
fed_to r q S T takes bs i p none goes kept =
    let same : i ≡ i + p = omega (arith, none) in record {
      there = q;
      fed = record {
        out = [];
        goes = subst (λ n. JsonGoes r (take n bs) [] q) same goes;
        hands = kept.stands;
        takes_all = kept.takes_all;
      };
    }

pub refused_later : (r q x : Reader) (S T : StandsFor) (takes : Takes) (bs : List ℕ) (i : ℕ)
    (refusal : SyntaxRefusal) → i < length bs → JsonGoes r (take i bs) [] q → JsonTakesByte q S (get_or bs i 0) x T takes (Err refusal)
    → JsonTakesPrefix r S bs x T takes (Err (moved_by i refusal))
refused_later r q x S T takes bs i (Bad p) inside goes h = (
  subst (λ n. HaltsAt (json_state r) bs (i + n)) (sym h.0) (halts_at r q bs i inside goes h.1),
  fed_to r q S T takes bs i p h.0 goes h.2,
)
refused_later r q x S T takes bs i Ended inside goes h = h
refused_later r q x S T takes bs i (TooDeep p) inside goes h = (
  subst (λ n. DeepensAt (json_state r) bs (i + n)) (sym h.0) (deepens_at r q bs i inside goes h.1),
  fed_to r q S T takes bs i p h.0 goes h.2,
)
refused_later r q x S T takes bs i (KeyKind p) inside goes h = h
refused_later r q x S T takes bs i NoMemory inside goes h = tt

pub refused_first : (r x : Reader) (S T : StandsFor) (takes : Takes) (bs : List ℕ) (refusal : SyntaxRefusal) → JsonIsSound r
    → 0 < length bs → JsonTakesByte r S (get_or bs 0 0) x T takes (Err refusal) → JsonTakesPrefix r S bs x T takes (Err refusal)
refused_first r x S T takes bs (Bad p) sound some h =
    let same : 0 + p ≡ p = omega arith in
    subst (λ n. JsonTakesPrefix r S bs x T takes (Err (Bad n))) same
    (refused_later r r x S T takes bs 0 (Bad p) some (goes_nowhere r sound) h)
refused_first r x S T takes bs Ended sound some h = h
refused_first r x S T takes bs (TooDeep p) sound some h =
    let same : 0 + p ≡ p = omega arith in
    subst (λ n. JsonTakesPrefix r S bs x T takes (Err (TooDeep n))) same
    (refused_later r r x S T takes bs 0 (TooDeep p) some (goes_nowhere r sound) h)
refused_first r x S T takes bs (KeyKind p) sound some h = h
refused_first r x S T takes bs NoMemory sound some h = tt

-- a number grows by a run
pub number_grows : (r q : Reader) (bs : List ℕ) (phase : Phase) (run : Run) → JsonIsSound r → r.place ≡ Number phase → run.count ≤ length bs
    → NumberLeads phase (take run.count bs) run.phase → AreNumberBytes (take run.count bs)
    → (run.count < length bs → NumberStops run.phase (get_or bs run.count 0))
    → q.place ≡ Number run.phase → q.number.items ≡ r.number.items ++ take run.count bs → q.lists ≡ r.lists
    → Grows r bs run q
number_grows r q bs phase run sound place inside leads bytes stops there kept lists = record {
  inside = inside;
  goes = record {
    leads = leads_from r (Number phase) (take run.count bs) [] (json_state q) place
        (subst (λ p. LeadsTo (place_at r (Number phase)) (take run.count bs) [] (place_at q p)) (sym there)
        (subst (λ b. LeadsTo (place_at r (Number phase)) (take run.count bs) [] (at (numeral b) (lists_of q))) (sym kept)
        (subst (λ n. LeadsTo (place_at r (Number phase)) (take run.count bs) []
        (at (numeral (r.number.items ++ take run.count bs)) (nested_in n))) (sym lists)
        (λ limit up. number_bytes_lead limit r.number.items (take run.count bs) (lists_of r) bytes))));
    sound = subst (λ p. PlaceKeeps p q.number.items (lists_of q)) (sym there)
        (subst (λ b. NumberLeads Start b run.phase) (sym kept)
        (numbers_joined Start phase run.phase r.number.items (take run.count bs) (kept_at r (Number phase) place sound) leads));
  };
  place = there;
  stops = stops;
}

-- what a number and its phase say of the bytes behind it
phase_of : (r : Reader) (phase : Phase) → JsonIsSound r → r.place ≡ Number phase → NumberLeads Start r.number.items phase
phase_of r phase sound place = kept_at r (Number phase) place sound

stops_number : (r : Reader) (phase : Phase) (c : ℕ) → JsonIsSound r → r.place ≡ Number phase → NumberStops phase c → (u : List ℕ)
    → IsNumber (r.number.items ++ c ∷ u) → ⊥
stops_number r phase c sound place stops u n = stops u ((phase_of r phase sound place).onward (c ∷ u) n)

pub number_of_phase : (r : Reader) (phase : Phase) → JsonIsSound r → r.place ≡ Number phase → NumberTail phase [] → IsNumber r.number.items
number_of_phase r phase sound place whole = number_from_whole r.number.items phase (phase_of r phase sound place) whole

pub number_halts : (r : Reader) (phase : Phase) (c : ℕ) → JsonIsSound r → r.place ≡ Number phase → NumberStops phase c
    → (NumberTail phase [] → ⊥)
    → Halts (json_state r) c
number_halts r phase c sound place stops not_whole =
    stops_from r (Number phase) c place
    (λ limit. number_stops limit r.number.items c (lists_of r)
    (λ n. not_whole (whole_from_number r.number.items phase (phase_of r phase sound place) n))
    (stops_number r phase c sound place stops))

-- a number is handed on, and then a byte comes that it doesn't go on with
behind_number : (r : Reader) (m : Node) (phase : Phase) (c limit : ℕ) → JsonIsSound r → r.place ≡ Number phase → NumberStops phase c
    → NumberText m r.number.items → JsonStops limit (at after (lists_of r)) c
    → JsonStops limit (place_at r (Number phase)) c
behind_number r m phase c limit sound place stops is halts s ts g =
    let (us, timed, en) = number_over limit r.number.items m c (lists_of r) s ts (stops_number r phase c sound place stops)
    (λ n x. one_node n m r.number.items x is) g in
    halts s us en

-- with a byte that may not come behind a value no text goes on from the number
pub number_and_halts : (r : Reader) (phase : Phase) (c : ℕ) → JsonIsSound r → r.place ≡ Number phase → NumberStops phase c
    → NumberTail phase [] → Halts (at after (lists_of r)) c → Halts (json_state r) c
number_and_halts r phase c sound place stops whole halts =
    let (m, is) = number_exists r.number.items (number_of_phase r phase sound place whole) in
    stops_from r (Number phase) c place (λ limit. behind_number r m phase c limit sound place stops is (halts limit))

-- and with one that may come the reader goes on behind the value
pub number_then : (r q : Reader) (S T U : StandsFor) (before behind : Takes) (phase : Phase) (c : ℕ)
    (result : Result (Unit {0}) SyntaxRefusal) → JsonIsSound r → r.place ≡ Number phase → NumberStops phase c → HandsNumber r S T before
    → JsonGoesOn most_levels (at after (lists_of r)) (c ∷ [])
    → JsonTakesByte (record r { place = After }) T c q U behind result → JsonTakesByte r S c q U behind result
number_then r q S T U before behind phase c (Ok x) sound place stops hands goes_on g = record {
  out = events hands.tree [] ++ g.out;
  goes = record {
    leads = leads_from r (Number phase) (c ∷ []) (events hands.tree [] ++ g.out) (json_state q) place
        (λ limit up. number_ends limit r.number.items hands.tree c (lists_of r) g.out (json_state q)
        (stops_number r phase c sound place stops) (λ n x. one_node n hands.tree r.number.items x hands.is) hands.is
        (g.goes.leads limit up));
    sound = g.goes.sound;
  };
  hands = takes_both S T U (events hands.tree []) g.out hands.hands g.hands;
  takes_all = g.takes_all;
}
number_then r q S T U before behind phase c (Err NoMemory) sound place stops hands goes_on g = tt
number_then r q S T U before behind phase c (Err (Bad p)) sound place stops hands (s, ts, rest) g = absurd (g.1 most_levels s ts rest)
number_then r q S T U before behind phase c (Err Ended) sound place stops hands goes_on g = g
number_then r q S T U before behind phase c (Err (TooDeep p)) sound place stops hands (s, ts, rest) g = absurd (g.1.stops s ts rest)
number_then r q S T U before behind phase c (Err (KeyKind p)) sound place stops hands goes_on g = g

-- one run behind another, by places
pub then_byte_goes : (r q x : Reader) (S T : StandsFor) (takes : Takes) (bs : List ℕ) (i : ℕ) → i < length bs
    → JsonGoes r (take i bs) [] q → JsonBrings q S (get_or bs i 0 ∷ []) x T takes → JsonBrings r S (take (i + 1) bs) x T takes
then_byte_goes r q x S T takes bs i inside h g =
    subst (λ ws. JsonBrings r S ws x T takes) (sym (take_more bs i 0 inside)) (record {
      out = g.out;
      goes = goes_joined r q x (take i bs) (get_or bs i 0 ∷ []) h g.goes;
      hands = g.hands;
      takes_all = g.takes_all;
    })

pub then_front_goes : (r q x : Reader) (S T U : StandsFor) (before behind : Takes) (bs : List ℕ) (i n : ℕ) → i ≤ length bs
    → n ≤ length bs - i → JsonBrings r S (take i bs) q T before → JsonBrings q T (take n (take (length bs - i) (drop i bs))) x U behind
    → JsonBrings r S (take (i + n) bs) x U behind
then_front_goes r q x S T U before behind bs i n inside few h g =
    subst (λ ws. JsonBrings r S ws x U behind) (sym (take-add i n bs))
    (feeds_joined r q x S T U before behind (take i bs) (take n (drop i bs)) h
    (subst (λ ws. JsonBrings q T ws x U behind) (take-take n (length bs - i) (drop i bs) few) g))

pub whole_goes : (r q : Reader) (S T : StandsFor) (takes : Takes) (bs : List ℕ) (i : ℕ) → length bs ≤ i
    → JsonBrings r S (take i bs) q T takes → JsonBrings r S bs q T takes
whole_goes r q S T takes bs i all h = subst (λ ws. JsonBrings r S ws q T takes) (take_all i bs all) h

-- a refusal of a turn, carried to all the bytes
fed_to_then : (r q : Reader) (S T U : StandsFor) (before takes : Takes) (bs : List ℕ) (i p : ℕ) → JsonBrings r S (take i bs) q T before
    → JsonBringsTo q T (drop i bs) p U takes → JsonBringsTo r S bs (i + p) U takes
fed_to_then r q S T U before takes bs i p h g = record {
  there = g.there;
  fed = subst (λ ws. JsonBrings r S ws g.there U takes) (sym (take-add i p bs))
      (feeds_joined r q g.there S T U before takes (take i bs) (take p (drop i bs)) h g.fed);
}

pub refused_in_turn : (r q x : Reader) (S T U : StandsFor) (before takes : Takes) (bs : List ℕ) (i : ℕ)
    (refusal : SyntaxRefusal) → i < length bs → JsonBrings r S (take i bs) q T before
    → JsonTakesPrefix q T (take (length bs - i) (drop i bs)) x U takes (Err refusal)
    → JsonTakesAll r S bs x U takes (Err (moved_by i refusal))
refused_in_turn r q x S T U before takes bs i (Bad p) inside fed h = (
  halts_then r q bs i p fed.goes (subst (λ ws. HaltsAt (json_state q) ws p) (rest_of bs i) h.0),
  fed_to_then r q S T U before takes bs i p fed (subst (λ ws. JsonBringsTo q T ws p U takes) (rest_of bs i) h.1),
)
refused_in_turn r q x S T U before takes bs i Ended inside fed h = h
refused_in_turn r q x S T U before takes bs i (TooDeep p) inside fed h = (
  deepens_then r q bs i p fed.goes (subst (λ ws. DeepensAt (json_state q) ws p) (rest_of bs i) h.0),
  fed_to_then r q S T U before takes bs i p fed (subst (λ ws. JsonBringsTo q T ws p U takes) (rest_of bs i) h.1),
)
refused_in_turn r q x S T U before takes bs i (KeyKind p) inside fed h = h
refused_in_turn r q x S T U before takes bs i NoMemory inside fed h = tt

pub refusal_within : (q x : Reader) (S T : StandsFor) (takes : Takes) (bs : List ℕ) (refusal : SyntaxRefusal) (n : ℕ)
    → length bs ≤ n → JsonTakesPrefix q S bs x T takes (Err refusal)
    → IsWithin n refusal
refusal_within q x S T takes bs (Bad p) n small h = omega (arith, h.0.inside)
refusal_within q x S T takes bs Ended n small h = tt
refusal_within q x S T takes bs (TooDeep p) n small h = omega (arith, h.0.inside)
refusal_within q x S T takes bs (KeyKind p) n small h = absurd h
refusal_within q x S T takes bs NoMemory n small h = tt

-- strings
pub string_on : (r : Reader) (role : Role) (t : TextReader) (bs : List ℕ) → JsonIsSound r → r.place ≡ Text role → ReadsOn r.text t bs
    → JsonGoes r bs [] (record r { text = t })
string_on r role t bs sound place on = record {
  leads = leads_from r (Text role) bs [] (json_state (record r { text = t })) place
      (subst (λ p. LeadsTo (place_at r (Text role)) bs [] (place_at (record r { text = t }) p)) (sym place)
      (λ limit up. string_goes limit role r.text.spot t.spot (string_so_far r.text) (string_so_far t) bs (lists_of r)
      (λ s u v. (on s u v).0) (λ s u v. (on s u v).1)));
  sound = sound;
}

-- where a reader stands behind a string of this role
abbrev string_end : Role → Where
string_end Key = colon
string_end Whole = after

string_closes : (r : Reader) (role : Role) (t : TextReader) (bs : List ℕ) → ReadsWhole r.text t bs
    → LeadsTo (place_at r (Text role)) bs (text_event_of role (string_so_far t) ∷ []) (at (string_end role) (lists_of r))
string_closes r Key t bs whole limit up =
    key_closes limit r.text.spot (string_so_far r.text) bs (string_so_far t) (lists_of r)
    (λ s u v x. let (a, b) = (whole s u v).0 x in (a, b)) (λ s. (whole s (string_so_far t) s).1 (refl, refl))
string_closes r Whole t bs whole limit up =
    text_closes limit r.text.spot (string_so_far r.text) bs (string_so_far t) (lists_of r)
    (λ s u v x. let (a, b) = (whole s u v).0 x in (a, b)) (λ s. (whole s (string_so_far t) s).1 (refl, refl))

string_end_goes_on : (role : Role) (ks : List OpenKind) → length ks ≤ most_levels → JsonGoesOn most_levels (at (string_end role) ks) []
string_end_goes_on Key ks room = colon_goes_on most_levels ks room
string_end_goes_on Whole ks room = after_goes_on most_levels ks room

pub text_may_come : (r : Reader) (role : Role) (t : TextReader) (bs : List ℕ) (S : StandsFor) (takes : Takes)
    → JsonIsPlaced r S takes → r.place ≡ Text role → ReadsWhole r.text t bs → MayTake S (text_event_of role (string_so_far t))
text_may_come r role t bs S takes placed place whole =
    event_placed (place_at r (Text role)) (at (string_end role) (lists_of r)) bs S (text_event_of role (string_so_far t)) []
    (subst (λ p. IsPlaced (place_at r p) S) place placed.placed) (string_closes r role t bs whole most_levels (omega arith))
    (string_end_goes_on role (lists_of r) (room_in r most_levels (omega arith)))

string_ended : (r h : Reader) (role : Role) (t : TextReader) (bs : List ℕ) → r.place ≡ Text role → lists_of h ≡ lists_of r
    → h.place ≡ behind_text role
    → LeadsTo (place_at r (Text role)) bs (text_event_of role (string_so_far t) ∷ []) (at (string_end role) (lists_of r))
    → JsonGoes r bs (text_event_of role (string_so_far t) ∷ []) h
string_ended r h Key t bs begun lists place leads = record {
  leads = leads_from r (Text Key) bs (key_event (string_so_far t) ∷ []) (json_state h) begun
      (subst (λ p. LeadsTo (place_at r (Text Key)) bs (key_event (string_so_far t) ∷ []) (place_at h p)) (sym place)
      (subst (λ ls. LeadsTo (place_at r (Text Key)) bs (key_event (string_so_far t) ∷ []) (at colon ls)) (sym lists) leads));
  sound = subst (λ p. PlaceKeeps p h.number.items (lists_of h)) (sym place) tt;
}
string_ended r h Whole t bs begun lists place leads = record {
  leads = leads_from r (Text Whole) bs (text_event (string_so_far t) ∷ []) (json_state h) begun
      (subst (λ p. LeadsTo (place_at r (Text Whole)) bs (text_event (string_so_far t) ∷ []) (place_at h p)) (sym place)
      (subst (λ ls. LeadsTo (place_at r (Text Whole)) bs (text_event (string_so_far t) ∷ []) (at after ls)) (sym lists) leads));
  sound = subst (λ p. PlaceKeeps p h.number.items (lists_of h)) (sym place) tt;
}

pub string_over : (r h : Reader) (S T : StandsFor) (takes : Takes) (role : Role) (t : TextReader) (bs : List ℕ)
    → r.place ≡ Text role → ReadsWhole r.text t bs → HandsText role (record r { text = t }) S h T takes → JsonBrings r S bs h T takes
string_over r h S T takes role t bs place whole hands = record {
  out = text_event_of role (string_so_far t) ∷ [];
  goes = string_ended r h role t bs place hands.lists hands.place (string_closes r role t bs whole);
  hands = hands.hands;
  takes_all = hands.takes_all;
}

-- a byte that no string goes on with, behind those that one goes on with
string_halts : (r : Reader) (role : Role) (t : TextReader) (bs : List ℕ) (i : ℕ) → JsonIsSound r → r.place ≡ Text role → i < length bs
    → ReadsOn r.text t (take i bs)
    → ((s u v : List ℕ) → TextRest r.text.spot (string_so_far r.text) (take (i + 1) bs ++ s) u v → ⊥) → HaltsAt (json_state r) bs i
string_halts r role t bs i sound place inside on stops =
    let goes = string_on r role t (take i bs) sound place on in
    record {
      inside = inside;
      before = subst (JsonGoesOn most_levels (json_state r)) (append-nil (take i bs))
          (on_back r (record r { text = t }) (take i bs) [] most_levels goes (omega arith)
          (reader_goes_on (record r { text = t }) goes.sound));
      behind = λ limit up (s, ts, rest).
          string_no_rest limit role r.text.spot (string_so_far r.text) (lists_of r) (take (i + 1) bs ++ s) ts (λ u v x. stops s u v x)
          (subst (λ p. JsonRest limit (place_at r p) (take (i + 1) bs ++ s) ts) place rest);
    }

-- the end of the bytes
pub number_cut_short : (r : Reader) (phase : Phase) → JsonIsSound r → r.place ≡ Number phase
    → (0 < length (lists_of r)) ⊎ (NumberTail phase [] → ⊥)
    → (ts : List TimedEvent) → JsonRest most_levels (json_state r) [] ts → ⊥
number_cut_short r phase sound place (inl deep) ts h =
    let (n, x, none) = number_last_is most_levels r.number.items (lists_of r) ts
    (subst (λ p. JsonRest most_levels (place_at r p) [] ts) place h) in
    omega (arith, ap length none)
number_cut_short r phase sound place (inr not_whole) ts h =
    let (n, x, none) = number_last_is most_levels r.number.items (lists_of r) ts
    (subst (λ p. JsonRest most_levels (place_at r p) [] ts) place h) in
    not_whole (whole_from_number r.number.items phase (phase_of r phase sound place) (number_is n r.number.items x))

none_open : (ls : List OpenKind) → length ls ≡ 0 → ls ≡ []
none_open [] e = refl
none_open (k ∷ ls) e = let none : ⊥ = omega (arith, e) in absurd none

-- the text ends with a number that is handed on, and nothing is open
pub number_finishes : (r : Reader) (S T : StandsFor) (takes : Takes) (phase : Phase) → r.place ≡ Number phase
    → length (lists_of r) ≡ 0 → HandsNumber r S T takes → JsonEndsText r S T takes (Ok tt)
number_finishes r S T takes phase place none hands =
    let closed : lists_of r ≡ [] = none_open (lists_of r) none in
    let (last, rest, is) = number_last most_levels r.number.items hands.tree hands.is in (
      last,
      subst (λ p. JsonRest most_levels (place_at r p) [] last) (sym place)
          (subst (λ ls. JsonRest most_levels (at (numeral r.number.items) ls) [] last) (sym closed) rest),
      subst (λ es. TakesAll S es T) (sym is) hands.hands,
      hands.takes_all,
    )

pub owed_at : (r : Reader) (p : JsonPlace) → r.place ≡ p → IsOwed (where_of p r.number.items r.text.spot (string_so_far r.text))
    → (ts : List TimedEvent) → JsonRest most_levels (json_state r) [] ts → ⊥
owed_at r p place owed ts h =
    token_owed most_levels (where_of p r.number.items r.text.spot (string_so_far r.text)) (lists_of r) ts owed
    (subst (λ q. JsonRest most_levels (place_at r q) [] ts) place h)

text_owed : (r : Reader) (role : Role) → r.place ≡ Text role → (ts : List TimedEvent) → JsonRest most_levels (json_state r) [] ts → ⊥
text_owed r role place ts h =
    string_no_rest most_levels role r.text.spot (string_so_far r.text) (lists_of r) [] ts
    (λ t v x. string_owed r.text.spot (string_so_far r.text) t v r.text.live x)
    (subst (λ q. JsonRest most_levels (place_at r q) [] ts) place h)

cut_at_place : (r : Reader) (p : JsonPlace) → r.place ≡ p → JsonIsSound r → ((phase : Phase) → p ≡ Number phase → ⊥)
    → (p ≡ After → 0 < length (lists_of r))
    → (ts : List TimedEvent) → JsonRest most_levels (json_state r) [] ts → ⊥
cut_at_place r Value place sound n d ts h = owed_at r Value place tt ts h
cut_at_place r FirstEntry place sound n d ts h = owed_at r FirstEntry place tt ts h
cut_at_place r FirstKey place sound n d ts h = owed_at r FirstKey place tt ts h
cut_at_place r NextKey place sound n d ts h = owed_at r NextKey place tt ts h
cut_at_place r Colon place sound n d ts h = owed_at r Colon place tt ts h
cut_at_place r After place sound n d ts h =
    let (none, e) = nothing_ends most_levels (lists_of r) ts (subst (λ q. JsonRest most_levels (place_at r q) [] ts) place h) in
    let deep = d refl in omega (arith, ap length none)
cut_at_place r (Word w taken) place sound n d ts h =
    word_owed most_levels w taken (lists_of r) ts (kept_at r (Word w taken) place sound)
    (subst (λ q. JsonRest most_levels (place_at r q) [] ts) place h)
cut_at_place r (Number phase) place sound n d ts h = absurd (n phase refl)
cut_at_place r (Text role) place sound n d ts h = text_owed r role place ts h

-- at every place but in a number, and behind a value only while something is open
pub cut_short : (r : Reader) → JsonIsSound r → ((phase : Phase) → r.place ≡ Number phase → ⊥) → (r.place ≡ After → 0 < length (lists_of r))
    → (ts : List TimedEvent) → JsonRest most_levels (json_state r) [] ts → ⊥
cut_short r sound no_number deep = cut_at_place r r.place refl sound no_number deep

pub after_cut : (r : Reader) → r.place ≡ After → JsonIsSound r → 0 < length (lists_of r)
    → (ts : List TimedEvent) → JsonRest most_levels (json_state r) [] ts → ⊥
after_cut r e sound deep = cut_at_place r After e sound (λ phase x. cc) (λ x. deep)

-- another byte than the next letter of a literal name
pub letter_halts : (r : Reader) (w : Literal) (taken c : ℕ) → r.place ≡ Word w taken → taken < length (letters w)
    → get_or (letters w) taken 0 ≢ c → Halts (json_state r) c
letter_halts r w taken c place inside other =
    stops_from r (Word w taken) c place (λ limit. word_stops limit w taken c (get_or (letters w) taken 0) (lists_of r)
    (drop_more (letters w) taken 0 inside) (λ e. other (sym e)))

pub white_run_takes : (r : Reader) (S : StandsFor) (takes : Takes) (bs : List ℕ) (k : ℕ) → JsonIsSound r → JsonIsPlaced r S takes
    → TakesWhitespace (json_state r).place → 0 < length bs
    → k ≤ length (take (length bs - 1) (drop 1 bs))
    → is_whitespace (get_or bs 0 0) ≡ true → AllWhitespace (take k (take (length bs - 1) (drop 1 bs)))
    → JsonTakesPrefix r S bs r S takes (Ok (1 + k))
white_run_takes r S takes bs k sound placed p some few here more =
    let within : k ≤ length bs - 1 = omega (arith, ap length (rest_of bs 1), length-drop 1 bs) in
    (omega arith, omega arith, feeds_nothing r r S takes (take (1 + k) bs) placed (white_run_goes r bs k sound p some within here more))

pub string_refused : (r : Reader) (S : StandsFor) (takes : Takes) (role : Role) (t : TextReader) (q : Reader) (bs : List ℕ)
    (refusal : TextRefusal) → JsonIsSound r → JsonIsPlaced r S takes → r.place ≡ Text role → ReadsString r.text t bs (Err refusal)
    → JsonTakesPrefix r S bs q S takes (Err (as_syntax refusal))
string_refused r S takes role t q bs (BadString i) sound placed place (inside, stops, on) = (
  string_halts r role t bs i sound place inside on stops,
  record {
    there = record r { text = t };
    fed = feeds_nothing r (record r { text = t }) S takes (take i bs) placed (string_on r role t (take i bs) sound place on);
  },
)
string_refused r S takes role t q bs NoRoom sound placed place h = tt

-- one more letter of a literal name
pub letter_goes : (r : Reader) (w : Literal) (taken c : ℕ) → r.place ≡ Word w taken → taken + 1 < length (letters w)
    → get_or (letters w) taken 0 ≡ c
    → JsonGoes r (c ∷ []) [] (record r { place = Word w (taken + 1) })
letter_goes r w taken c place inside same =
    let cut : drop taken (letters w) ≡ c ∷ drop (taken + 1) (letters w) = drop_more (letters w) taken 0 (omega arith)
    ∙ ap (λ x. x ∷ drop (taken + 1) (letters w)) same in
    record {
      leads = leads_from r (Word w taken) (c ∷ []) [] (place_at r (Word w (taken + 1))) place
          (λ limit up. letter_leads limit w taken c (lists_of r) cut);
      sound = inside;
    }

-- the last letter of a literal name
pub word_over : (r : Reader) (w : Literal) (taken c : ℕ) → r.place ≡ Word w taken → taken < length (letters w)
    → length (letters w) ≤ taken + 1 → get_or (letters w) taken 0 ≡ c
    → JsonGoes r (c ∷ []) (literal_event w ∷ []) (record r { place = After })
word_over r w taken c place inside last same =
    let cut : drop taken (letters w) ≡ c ∷ [] =
    drop_more (letters w) taken 0 inside ∙ ap (λ x. get_or (letters w) taken 0 ∷ x) (drop_all (taken + 1) (letters w) last)
    ∙ ap (λ x. x ∷ []) same in
    record {
      leads = leads_from r (Word w taken) (c ∷ []) (literal_event w ∷ []) (at after (lists_of r)) place
          (λ limit up. word_ends limit w taken c (lists_of r) cut);
      sound = tt;
    }

-- a turn behind the bytes before it
pub turn_goes : (r q x : Reader) (S T U : StandsFor) (before behind : Takes) (bs : List ℕ) (i n : ℕ) → i < length bs
    → JsonBrings r S (take i bs) q T before → JsonTakesPrefix q T (take (length bs - i) (drop i bs)) x U behind (Ok n)
    → (i + n ≤ length bs) × JsonBrings r S (take (i + n) bs) x U behind
turn_goes r q x S T U before behind bs i n inside h (some, few, g) =
    let within : n ≤ length bs - i = omega (arith, ap length (rest_of bs i), length-drop i bs) in
    (omega arith, then_front_goes r q x S T U before behind bs i n (omega arith) within h g)

-- whether the bytes may end here: never while something is open, behind a value always, and in a number where that is whole
pub number_may_end : (r : Reader) (phase : Phase) (result : Bool) → JsonIsSound r → r.place ≡ Number phase → length (lists_of r) ≡ 0
    → (IsTrue result ↔ NumberTail phase []) → JsonMayEnd r result
number_may_end r phase true sound place none is =
    let (m, text) = number_exists r.number.items (number_of_phase r phase sound place (is.0 refl)) in
    let (last, rest, same) = number_last most_levels r.number.items m text in (
      last,
      subst (λ p. JsonRest most_levels (place_at r p) [] last) (sym place)
          (subst (λ ls. JsonRest most_levels (at (numeral r.number.items) ls) [] last) (sym (none_open (lists_of r) none)) rest),
    )
number_may_end r phase false sound place none is =
    number_cut_short r phase sound place (inr (λ whole. let clash : false ≡ true = is.1 whole in cc))

pub after_may_end : (r : Reader) → r.place ≡ After → length (lists_of r) ≡ 0 → JsonMayEnd r true
after_may_end r place none = (
  [],
  subst (λ p. JsonRest most_levels (place_at r p) [] []) (sym place)
      (subst (λ ls. JsonRest most_levels (at after ls) [] []) (sym (none_open (lists_of r) none)) (refl, refl)),
)

deep_at : (r : Reader) (p : JsonPlace) → r.place ≡ p → JsonIsSound r → 0 < length (lists_of r) → JsonMayEnd r false
deep_at r Value place sound deep = cut_at_place r Value place sound (λ phase e. cc) (λ e. deep)
deep_at r FirstEntry place sound deep = cut_at_place r FirstEntry place sound (λ phase e. cc) (λ e. deep)
deep_at r FirstKey place sound deep = cut_at_place r FirstKey place sound (λ phase e. cc) (λ e. deep)
deep_at r NextKey place sound deep = cut_at_place r NextKey place sound (λ phase e. cc) (λ e. deep)
deep_at r Colon place sound deep = cut_at_place r Colon place sound (λ phase e. cc) (λ e. deep)
deep_at r After place sound deep = cut_at_place r After place sound (λ phase e. cc) (λ e. deep)
deep_at r (Word w taken) place sound deep = cut_at_place r (Word w taken) place sound (λ phase e. cc) (λ e. deep)
deep_at r (Number phase) place sound deep = number_cut_short r phase sound place (inl deep)
deep_at r (Text role) place sound deep = cut_at_place r (Text role) place sound (λ phase e. cc) (λ e. deep)

pub deep_cut : (r : Reader) → JsonIsSound r → 0 < length (lists_of r) → JsonMayEnd r false
deep_cut r sound deep = deep_at r r.place refl sound deep
