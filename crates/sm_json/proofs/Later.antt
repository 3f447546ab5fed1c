-- Nothing is handed on late: of what may still come at a place no event is complete already. So the events that a run of the reader
-- hands on are those that its bytes complete, and no others are.
use Rattle.std.proofs.Common.{◌≡◌, ℕ, ◌≤◌, ◌<◌, true, false, List, [], ◌∷◌, ◌++◌, None, sym, ap, subst, ◌∙◌, arith, length, length-append}
use Rattle.std.proofs.Common.{length-drop, drop}
use Rattle.sm_tree.specs.Node.{Node, Nodes, Members, null, bool, int, number, text, bytes, tag, opaque, list, object, no_nodes, node}
use Rattle.sm_tree.specs.Node.{no_members, member}
use Rattle.sm_tree.specs.Events.{NodeEvent, null_event, bool_event, int_event, number_event, text_event, start_list, end_list}
use Rattle.sm_tree.specs.Events.{start_object, key_event, end_object}
use Rattle.sm_tree.specs.Timing.{TimedEvent, by_byte, complete_with, Completes}
use Rattle.sm_tree.specs.Syntax.{most_levels}
use Rattle.sm_tree.specs.steps.Handing.{AreLater}
use Rattle.sm_tree.specs.declared.build.OpenKind.{OpenKind}
use Rattle.sm_tree.specs.declared.build.OpenKind.TheVariants.{List as a_list, Object as an_object}
use Rattle.sm_tree.proofs.Handing.{later_sooner, handed_complete}
use Rattle.sm_json.specs.Timing.{by_next, ValueTimed, EntriesTimed, MoreEntriesTimed, PairsTimed, MorePairsTimed, json_timing}
use Rattle.sm_json.specs.steps.TextSteps.{IsLive}
use Rattle.sm_json.specs.steps.Rest.{Where, value, first_entry, first_key, next_key, colon, after, word, numeral, in_text, JsonState}
use Rattle.sm_json.specs.steps.Rest.{json_start, letters, literal_event, JsonEnds, ValueComes, ColonComes, FirstEntryComes, FirstKeyComes}
use Rattle.sm_json.specs.steps.Rest.{JsonRestAt, JsonLeads, JsonGoesOn}
use Rattle.sm_json.specs.declared.place.Role.TheVariants.{Key, Value}
use Rattle.sm_json.proofs.EventCounts.{white_shorter, separator_shorter, text_shorter, number_shorter}
use Rattle.sm_json.proofs.Owed.{text_rest_shorter}
use Rattle.sm_json.proofs.Whole.{start_timed, timed_start}

-- an event whose last byte is among these, before those behind it
pub spoken_later : (e : NodeEvent) (s r : List ℕ) (ts us : List TimedEvent) → length r < length s → ts ≡ by_byte e (length r) ∷ us
    → AreLater (length r) us → AreLater (length s) ts
spoken_later e s r ts us less timed h =
    subst (AreLater (length s)) (sym timed) (less, later_sooner (length r) (length s) us (omega arith) h)

next_later : (e : NodeEvent) (s r : List ℕ) (ts us : List TimedEvent) → length r ≤ length s → ts ≡ by_next e r ∷ us
    → AreLater (length r) us → AreLater (length s) ts
next_later e s [] ts us less timed h = subst (AreLater (length s)) (sym timed) (later_sooner 0 (length s) us (omega arith) h)
next_later e s (c ∷ r) ts us less timed h =
    subst (AreLater (length s)) (sym timed) (omega arith, later_sooner (length (c ∷ r)) (length s) us less h)

-- a value takes at least a byte, and its events are complete within it or later
mutual
  value_later : (n : Node) (s r : List ℕ) (ts us : List TimedEvent) → ValueTimed n s r ts us → AreLater (length r) us
      → (length r < length s) × AreLater (length s) ts
  value_later null s r ts us h g =
      let less : length r < length s = omega (arith, ap length h.0) in (less, spoken_later null_event s r ts us less h.1 g)
  value_later (bool true) s r ts us h g =
      let less : length r < length s = omega (arith, ap length h.0) in (less, spoken_later (bool_event true) s r ts us less h.1 g)
  value_later (bool false) s r ts us h g =
      let less : length r < length s = omega (arith, ap length h.0) in (less, spoken_later (bool_event false) s r ts us less h.1 g)
  value_later (int z) s r ts us h g =
      let less = number_shorter (int z) s r (λ t x. x.0) h.0 in (less, next_later (int_event z) s r ts us (omega arith) h.1 g)
  value_later (number u) s r ts us h g =
      let less = number_shorter (number u) s r (λ t x. x.0) h.0 in (less, next_later (number_event u) s r ts us (omega arith) h.1 g)
  value_later (text t) s r ts us h g =
      let less = text_shorter t s r h.0 in (less, spoken_later (text_event t) s r ts us less h.1 g)
  value_later (bytes t) s r ts us h g = absurd h
  value_later (tag k n) s r ts us h g = absurd h
  value_later (opaque b) s r ts us h g = absurd h
  value_later (list ns) s r ts us (s1, vs, e, timed, m) g =
      let (less, later) = entries_later ns s1 r vs us m g in
      let inner : length s1 < length s = omega (arith, ap length e) in
      (omega arith, spoken_later (start_list None) s s1 ts vs inner timed later)
  value_later (object ms) s r ts us (s1, vs, e, timed, m) g =
      let (less, later) = pairs_later ms s1 r vs us m g in
      let inner : length s1 < length s = omega (arith, ap length e) in
      (omega arith, spoken_later (start_object None) s s1 ts vs inner timed later)

  entries_later : (ns : Nodes) (s r : List ℕ) (ts us : List TimedEvent) → EntriesTimed ns s r ts us → AreLater (length r) us
      → (length r < length s) × AreLater (length s) ts
  entries_later no_nodes s r ts us (k, timed) g =
      let less = white_shorter s (93 ∷ r) k in (omega arith, spoken_later end_list s r ts us (omega arith) timed g)
  entries_later (node n ns) s r ts us (s1, s2, vs, k, v, m) g =
      let (less, later) = more_entries_later ns s2 r vs us m g in
      let (less1, later1) = value_later n s1 s2 ts vs v later in
      let white = white_shorter s s1 k in (omega arith, later_sooner (length s1) (length s) ts white later1)

  more_entries_later : (ns : Nodes) (s r : List ℕ) (ts us : List TimedEvent) → MoreEntriesTimed ns s r ts us → AreLater (length r) us
      → (length r < length s) × AreLater (length s) ts
  more_entries_later no_nodes s r ts us (k, timed) g =
      let less = white_shorter s (93 ∷ r) k in (omega arith, spoken_later end_list s r ts us (omega arith) timed g)
  more_entries_later (node n ns) s r ts us (s1, s2, vs, k, v, m) g =
      let (less, later) = more_entries_later ns s2 r vs us m g in
      let (less1, later1) = value_later n s1 s2 ts vs v later in
      let parted = separator_shorter 44 s s1 k in (omega arith, later_sooner (length s1) (length s) ts (omega arith) later1)

  pairs_later : (ms : Members) (s r : List ℕ) (ts us : List TimedEvent) → PairsTimed ms s r ts us → AreLater (length r) us
      → (length r < length s) × AreLater (length s) ts
  pairs_later no_members s r ts us (k, timed) g =
      let less = white_shorter s (125 ∷ r) k in (omega arith, spoken_later end_object s r ts us (omega arith) timed g)
  pairs_later (member k n ms) s r ts us (s1, s2, s3, s4, vs, ws, white, name, timed, sep, v, m) g =
      let (less, later) = more_pairs_later ms s4 r ws us m g in
      let (less1, later1) = value_later n s3 s4 vs ws v later in
      let parted = separator_shorter 58 s2 s3 sep in
      let named = text_shorter k s1 s2 name in
      let blank = white_shorter s s1 white in
      let later2 = later_sooner (length s3) (length s2) vs (omega arith) later1 in
      (omega arith, spoken_later (key_event k) s s2 ts vs (omega arith) timed later2)

  more_pairs_later : (ms : Members) (s r : List ℕ) (ts us : List TimedEvent) → MorePairsTimed ms s r ts us → AreLater (length r) us
      → (length r < length s) × AreLater (length s) ts
  more_pairs_later no_members s r ts us (k, timed) g =
      let less = white_shorter s (125 ∷ r) k in (omega arith, spoken_later end_object s r ts us (omega arith) timed g)
  more_pairs_later (member k n ms) s r ts us (s1, s2, s3, s4, vs, ws, white, name, timed, sep, v, m) g =
      let (less, later) = more_pairs_later ms s4 r ws us m g in
      let (less1, later1) = value_later n s3 s4 vs ws v later in
      let parted = separator_shorter 58 s2 s3 sep in
      let named = text_shorter k s1 s2 name in
      let blank = separator_shorter 44 s s1 white in
      let later2 = later_sooner (length s3) (length s2) vs (omega arith) later1 in
      (omega arith, spoken_later (key_event k) s s2 ts vs (omega arith) timed later2)

-- at each place
pub ends_later : (limit : ℕ) (ks : List OpenKind) (s : List ℕ) (ts : List TimedEvent) → JsonEnds limit ks s ts → AreLater (length s) ts
ends_later limit [] s ts (k, e) = subst (AreLater (length s)) (sym e) tt
ends_later limit (a_list ∷ ks) s ts (ns, r, us, m, room, en) = (more_entries_later ns s r ts us m (ends_later limit ks r us en)).1
ends_later limit (an_object ∷ ks) s ts (ms, r, us, m, room, en) = (more_pairs_later ms s r ts us m (ends_later limit ks r us en)).1

value_comes_later : (limit : ℕ) (ks : List OpenKind) (s : List ℕ) (ts : List TimedEvent) → ValueComes limit ks s ts → AreLater (length s) ts
value_comes_later limit ks s ts (s1, k, (n, r, us, v, room, en)) =
    later_sooner (length s1) (length s) ts (white_shorter s s1 k) (value_later n s1 r ts us v (ends_later limit ks r us en)).1

pub colon_later : (limit : ℕ) (ks : List OpenKind) (s : List ℕ) (ts : List TimedEvent) → ColonComes limit ks s ts → AreLater (length s) ts
colon_later limit ks s ts (s1, k, h) =
    let less = white_shorter s (58 ∷ s1) k in
    later_sooner (length s1) (length s) ts (omega arith) (value_comes_later limit ks s1 ts h)

first_entry_later : (limit : ℕ) (ks : List OpenKind) (s : List ℕ) (ts : List TimedEvent) → FirstEntryComes limit ks s ts
    → AreLater (length s) ts
first_entry_later limit [] s ts h = absurd h
first_entry_later limit (a_list ∷ ks) s ts (ns, r, us, m, room, en) = (entries_later ns s r ts us m (ends_later limit ks r us en)).1
first_entry_later limit (an_object ∷ ks) s ts h = absurd h

first_key_later : (limit : ℕ) (ks : List OpenKind) (s : List ℕ) (ts : List TimedEvent) → FirstKeyComes limit ks s ts
    → AreLater (length s) ts
first_key_later limit [] s ts h = absurd h
first_key_later limit (a_list ∷ ks) s ts h = absurd h
first_key_later limit (an_object ∷ ks) s ts (ms, r, us, m, room, en) = (pairs_later ms s r ts us m (ends_later limit ks r us en)).1

-- the places at which something of what has begun is still to come
abbrev pub IsGoingOn : Where → Type 0
IsGoingOn value = Unit {0}
IsGoingOn first_entry = Unit {0}
IsGoingOn first_key = Unit {0}
IsGoingOn next_key = Unit {0}
IsGoingOn colon = Unit {0}
IsGoingOn after = Unit {0}
IsGoingOn (word w taken) = taken < length (letters w)
IsGoingOn (numeral b) = Unit {0}
IsGoingOn (in_text role spot b) = IsLive spot

pub rest_later : (limit : ℕ) (p : Where) (ks : List OpenKind) (s : List ℕ) (ts : List TimedEvent) → IsGoingOn p
    → JsonRestAt limit p ks s ts → AreLater (length s) ts
rest_later limit value ks s ts on h = value_comes_later limit ks s ts h
rest_later limit first_entry ks s ts on h = first_entry_later limit ks s ts h
rest_later limit first_key ks s ts on h = first_key_later limit ks s ts h
rest_later limit next_key ks s ts on (s1, k, (name, s2, us, sp, co, timed)) =
    let blank = white_shorter s s1 k in
    let named = text_shorter name s1 s2 sp in
    spoken_later (key_event name) s s2 ts us (omega arith) timed (colon_later limit ks s2 us co)
rest_later limit colon ks s ts on h = colon_later limit ks s ts h
rest_later limit after ks s ts on h = ends_later limit ks s ts h
rest_later limit (word w taken) ks s ts on (r, us, e, en, timed) =
    let less : length r < length s =
    omega (arith, ap length e, length-append (drop taken (letters w)) r, length-drop taken (letters w)) in
    spoken_later (literal_event w) s r ts us less timed (ends_later limit ks r us en)
rest_later limit (numeral b) ks s ts on (n, u, r, us, e, x, en, (event, single, timed)) =
    let less : length r ≤ length s = omega (arith, ap length e, length-append u r) in
    next_later event s r ts us less timed (ends_later limit ks r us en)
rest_later limit (in_text Key spot b) ks s ts on (t, r, us, h, co, timed) =
    spoken_later (key_event t) s r ts us (text_rest_shorter spot b s t r on h) timed (colon_later limit ks r us co)
rest_later limit (in_text Value spot b) ks s ts on (t, r, us, h, en, timed) =
    spoken_later (text_event t) s r ts us (text_rest_shorter spot b s t r on h) timed (ends_later limit ks r us en)

-- what a run hands on is what its bytes complete
pub run_completes : (bs : List ℕ) (out : List NodeEvent) (x : JsonState) → JsonLeads most_levels json_start bs out x
    → JsonGoesOn most_levels x [] → IsGoingOn x.place → Completes json_timing bs out
run_completes bs out x leads (s, us, rest) on =
    let (os, hands, begun) = leads.back s us rest in
    let (n, timed, room) = start_timed most_levels (bs ++ s) (os ++ us) begun in
    (s, n, os ++ us, timed, room, sym (handed_complete (length s) os us out hands (rest_later most_levels x.place x.lists s us on rest)))

-- and they complete nothing else
pub one_completed : (bs : List ℕ) (out es : List NodeEvent) (x : JsonState) → JsonLeads most_levels json_start bs out x
    → IsGoingOn x.place → Completes json_timing bs es → es ≡ out
one_completed bs out es x leads on (more, n, ts, timed, room, is) =
    let (os, us, parts, hands, rest) = leads.onward more ts (timed_start most_levels (bs ++ more) n ts timed room) in
    is ∙ ap (complete_with (length more)) parts
    ∙ handed_complete (length more) os us out hands (rest_later most_levels x.place x.lists more us on rest)
