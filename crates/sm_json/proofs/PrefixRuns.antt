-- What begins a text leads on: from each place the bytes that may come lead to another one, up to a string that isn't whole. Of what
-- comes there nothing is complete within the bytes. So bytes complete one list of events, and longer ones go further.
use Rattle.std.proofs.Common.{◌≡◌, ℕ, zero, suc, ◌+◌, ◌≤◌, ◌<◌, inl, inr, true, false, Bool, List, [], ◌∷◌, ◌++◌, None, refl, sym, ap}
use Rattle.std.proofs.Common.{subst, ◌∙◌, arith, length, length-append, append_assoc, append-nil, drop, get_or}
use Rattle.std.proofs.lemmas.Bool.{cases_lt, cases_eq}
use Rattle.std.proofs.lemmas.List.{drop_more, drop_all}
use Rattle.sm_tree.specs.Node.{null, bool, int, number, text, bytes, tag, opaque, list, object, no_nodes, node, no_members, member}
use Rattle.sm_tree.specs.Events.{NodeEvent, start_list, end_list, start_object, end_object, key_event, text_event, events}
use Rattle.sm_tree.specs.Limits.{most_levels}
use Rattle.sm_tree.specs.Timing.{TimedEvent, untimed, complete_with, Completes, HandsOn}
use Rattle.sm_tree.specs.TimingLaws.{TimesTexts, HasOneCompletion, GoesFurther, BeginsTrees}
use Rattle.sm_tree.specs.Streams.{Streams}
use Rattle.sm_tree.specs.Numbers.{IsNumber, NumberText}
use Rattle.sm_tree.specs.NumberTail.{IsNumberByte, AreNumberBytes}
use Rattle.sm_tree.specs.steps.Handing.{AreLater}
use Rattle.sm_tree.specs.declared.build.OpenKind.{OpenKind}
use Rattle.sm_tree.specs.declared.build.OpenKind.TheVariants.{List as a_list, Object as an_object}
use Rattle.sm_tree.proofs.ListEnds.{cut_within}
use Rattle.sm_tree.proofs.Handing.{hands_sooner, handed_before, handed_complete, handed_untimed}
use Rattle.sm_tree.proofs.Numbers.{number_bytes, one_node}
use Rattle.sm_tree.proofs.Streams.{events_stream}
use Rattle.sm_json.specs.Strings.{is_whitespace}
use Rattle.sm_json.specs.JsonText.{JsonText}
use Rattle.sm_json.specs.Timing.{json_timing}
use Rattle.sm_json.specs.steps.TextRest.{TextRest}
use Rattle.sm_json.specs.steps.TextSteps.{IsLive}
use Rattle.sm_json.specs.steps.Rest.{Where, value, first_entry, first_key, next_key, colon, after, word, numeral, in_text, JsonState}
use Rattle.sm_json.specs.steps.Rest.{json_start, letters, literal_event, JsonEnds, ValueNow, ColonComes, NameComes, FirstEntryComes}
use Rattle.sm_json.specs.steps.Rest.{FirstKeyComes, JsonRest, JsonRestAt, JsonLeads}
use Rattle.sm_json.specs.steps.Machine.{TakesWhitespace}
use Rattle.sm_json.specs.declared.spot.Spot.{Spot}
use Rattle.sm_json.specs.declared.spot.Spot.TheVariants.{Plain}
use Rattle.sm_json.specs.declared.place.Literal.{Literal}
use Rattle.sm_json.specs.declared.place.Literal.TheVariants.{Null, True, False}
use Rattle.sm_json.specs.declared.place.Role.{Role}
use Rattle.sm_json.specs.declared.place.Role.TheVariants.{Key, Value}
use Rattle.sm_json.proofs.Starts.{heads}
use Rattle.sm_json.proofs.White.{white_leads}
use Rattle.sm_json.proofs.Timed.{timed_first, text_timed, timed_text}
use Rattle.sm_json.proofs.Whole.{leads_none, leads_joined, timed_start}
use Rattle.sm_json.proofs.Opening.{at, value_here, list_opens, object_opens}
use Rattle.sm_json.proofs.Leaves.{string_begins, word_begins, number_begins, number_is}
use Rattle.sm_json.proofs.Between.{here_is, key_here, colon_leads, key_leads, first_key_onward, first_key_leads, object_empty}
use Rattle.sm_json.proofs.Between.{first_entry_onward, first_entry_leads, list_empty}
use Rattle.sm_json.proofs.After.{list_goes_on, list_ends, object_goes_on, object_ends, end_stops}
use Rattle.sm_json.proofs.Within.{letter_leads, word_ends, number_byte_leads, number_ends, number_ends_before, key_closes, text_closes}
use Rattle.sm_json.proofs.Owed.{text_rest_shorter}
use Rattle.sm_json.proofs.Later.{IsGoingOn, rest_later, spoken_later, colon_later, ends_later}
use Rattle.sm_json.proofs.StringCuts.{text_cut, one_rest}

-- places between two tokens, within a literal name or a number, and behind a quotation mark
abbrev Stands : Where → Type 0
Stands (in_text role spot b) = (spot ≡ Plain) × (b ≡ [])
Stands value = Unit {0}
Stands first_entry = Unit {0}
Stands first_key = Unit {0}
Stands next_key = Unit {0}
Stands colon = Unit {0}
Stands after = Unit {0}
Stands (word w taken) = taken < length (letters w)
Stands (numeral b) = Unit {0}

-- the bytes lead on to such a place
abbrev Advances : ℕ → JsonState → List ℕ → Type 0
Advances limit x v = (out : List NodeEvent) × (y : JsonState) × JsonLeads limit x v out y × Stands y.place

white_advances : (limit : ℕ) (x : JsonState) (c : ℕ) → TakesWhitespace x.place → Stands x.place → is_whitespace c ≡ true
    → Advances limit x (c ∷ [])
white_advances limit x c takes stands white = ([], x, white_leads limit x c takes white, stands)

-- a byte that is white, or leads on from here because it isn't
by_white : (limit : ℕ) (x : JsonState) (c : ℕ) (white : Bool) → TakesWhitespace x.place → Stands x.place → is_whitespace c ≡ white
    → (is_whitespace c ≡ false → Advances limit x (c ∷ [])) → Advances limit x (c ∷ [])
by_white limit x c true takes stands is black = white_advances limit x c takes stands is
by_white limit x c false takes stands is black = black is

-- as another byte
same_byte : (limit : ℕ) (x : JsonState) (c d : ℕ) → c ≡ d → Advances limit x (d ∷ []) → Advances limit x (c ∷ [])
same_byte limit x c d is there = subst (λ b. Advances limit x (b ∷ [])) (sym is) there

-- where a value must come: by the byte that it begins with
value_advances : (limit c : ℕ) (ks : List OpenKind) (s : List ℕ) (ts : List TimedEvent) → is_whitespace c ≡ false
    → ValueNow limit ks (c ∷ s) ts → Advances limit (at value ks) (c ∷ [])
value_advances limit c ks s ts black (null, r, us, h, room, en) =
    same_byte limit (at value ks) c 110 (timed_first null c s r ts us h)
    ([], at (word Null 1) ks, word_begins limit Null ks (omega arith), omega arith)
value_advances limit c ks s ts black (bool true, r, us, h, room, en) =
    same_byte limit (at value ks) c 116 (timed_first (bool true) c s r ts us h)
    ([], at (word True 1) ks, word_begins limit True ks (omega arith), omega arith)
value_advances limit c ks s ts black (bool false, r, us, h, room, en) =
    same_byte limit (at value ks) c 102 (timed_first (bool false) c s r ts us h)
    ([], at (word False 1) ks, word_begins limit False ks (omega arith), omega arith)
value_advances limit c ks s ts black (int z, r, us, h, room, en) =
    ([], at (numeral (c ∷ [])) ks, number_begins limit c ks (omega arith) black (timed_first (int z) c s r ts us h), tt)
value_advances limit c ks s ts black (number t, r, us, h, room, en) =
    ([], at (numeral (c ∷ [])) ks, number_begins limit c ks (omega arith) black (timed_first (number t) c s r ts us h), tt)
value_advances limit c ks s ts black (text t, r, us, h, room, en) =
    same_byte limit (at value ks) c 34 (timed_first (text t) c s r ts us h)
    ([], at (in_text Value Plain []) ks, string_begins limit ks (omega arith), (refl, refl))
value_advances limit c ks s ts black (bytes t, r, us, h, room, en) = absurd h
value_advances limit c ks s ts black (tag k n, r, us, h, room, en) = absurd h
value_advances limit c ks s ts black (opaque b, r, us, h, room, en) = absurd h
value_advances limit c ks s ts black (list ns, r, us, h, room, en) =
    same_byte limit (at value ks) c 91 (timed_first (list ns) c s r ts us h)
    (start_list None ∷ [], at first_entry (a_list ∷ ks), list_opens limit ks, tt)
value_advances limit c ks s ts black (object ms, r, us, h, room, en) =
    same_byte limit (at value ks) c 123 (timed_first (object ms) c s r ts us h)
    (start_object None ∷ [], at first_key (an_object ∷ ks), object_opens limit ks, tt)

-- where a name must come, and where a colon must
name_advances : (limit c : ℕ) (ks : List OpenKind) (s : List ℕ) (ts : List TimedEvent) → is_whitespace c ≡ false
    → NameComes limit ks (c ∷ s) ts → Advances limit (at next_key ks) (c ∷ [])
name_advances limit c ks s ts black h =
    let (t, r, us, (cs, s1, e1, e2, x), co, timed) = key_here limit ks c s ts black h in
    same_byte limit (at next_key ks) c 34 (heads c 34 s s1 e2) ([], at (in_text Key Plain []) ks, key_leads limit ks, (refl, refl))

colon_advances : (limit c : ℕ) (ks : List OpenKind) (s : List ℕ) (ts : List TimedEvent) → is_whitespace c ≡ false
    → ColonComes limit ks (c ∷ s) ts → Advances limit (at colon ks) (c ∷ [])
colon_advances limit c ks s ts black (s1, k, h) =
    same_byte limit (at colon ks) c 58 (here_is c 58 s s1 black k) ([], at value ks, colon_leads limit ks, tt)

-- behind a bracket and behind a brace
entry_advances : (limit c : ℕ) (ks : List OpenKind) (s : List ℕ) (ts : List TimedEvent) → is_whitespace c ≡ false
    → FirstEntryComes limit ks (c ∷ s) ts → Advances limit (at first_entry ks) (c ∷ [])
entry_advances limit c [] s ts black h = absurd h
entry_advances limit c (a_list ∷ ks) s ts black h =
    let (ns, r, us, m, room, en) = h in
    elim (cases_eq c 93) [
      | inl is ↦ same_byte limit (at first_entry (a_list ∷ ks)) c 93 is (end_list ∷ [], at after ks, list_empty limit ks (omega arith), tt)
      | inr other ↦
          let comes = first_entry_onward limit c ks s ts black other h in
          let (out, y, leads, stands) =
          value_advances limit c (a_list ∷ ks) s ts black (value_here limit (a_list ∷ ks) c s ts black comes) in
          (out, y, first_entry_leads limit c ks out y black other leads, stands)
    ]
entry_advances limit c (an_object ∷ ks) s ts black h = absurd h

pair_advances : (limit c : ℕ) (ks : List OpenKind) (s : List ℕ) (ts : List TimedEvent) → is_whitespace c ≡ false
    → FirstKeyComes limit ks (c ∷ s) ts → Advances limit (at first_key ks) (c ∷ [])
pair_advances limit c [] s ts black h = absurd h
pair_advances limit c (a_list ∷ ks) s ts black h = absurd h
pair_advances limit c (an_object ∷ ks) s ts black h =
    let (ms, r, us, m, room, en) = h in
    elim (cases_eq c 125) [
      | inl is ↦ same_byte limit (at first_key (an_object ∷ ks)) c 125 is
          (end_object ∷ [], at after ks, object_empty limit ks (omega arith), tt)
      | inr other ↦
          let (out, y, leads, stands) =
          name_advances limit c (an_object ∷ ks) s ts black (first_key_onward limit c ks s ts black other h) in
          (out, y, first_key_leads limit c ks out y black other leads, stands)
    ]

-- behind a value
after_advances : (limit c : ℕ) (ks : List OpenKind) (s : List ℕ) (ts : List TimedEvent) → is_whitespace c ≡ false
    → JsonEnds limit ks (c ∷ s) ts → Advances limit (at after ks) (c ∷ [])
after_advances limit c [] s ts black h = absurd (end_stops limit c black s ts h)
after_advances limit c (a_list ∷ ks) s ts black (no_nodes, r, us, (k, timed), room, en) =
    same_byte limit (at after (a_list ∷ ks)) c 93 (here_is c 93 s r black k)
    (end_list ∷ [], at after ks, list_ends limit ks (omega arith), tt)
after_advances limit c (a_list ∷ ks) s ts black (node n ns, r, us, (s1, s2, vs, (x, k, k1), v, m), room, en) =
    same_byte limit (at after (a_list ∷ ks)) c 44 (here_is c 44 s x black k) ([], at value (a_list ∷ ks), list_goes_on limit ks, tt)
after_advances limit c (an_object ∷ ks) s ts black (no_members, r, us, (k, timed), room, en) =
    same_byte limit (at after (an_object ∷ ks)) c 125 (here_is c 125 s r black k)
    (end_object ∷ [], at after ks, object_ends limit ks (omega arith), tt)
after_advances limit c (an_object ∷ ks) s ts black (
  member name n ms,
  r,
  us,
  (s1, s2, s3, s4, vs, ws, (x, k, k0), sp, timed, sep, v, m),
  room,
  en,
) =
    same_byte limit (at after (an_object ∷ ks)) c 44 (here_is c 44 s x black k)
    ([], at next_key (an_object ∷ ks), object_goes_on limit ks, tt)

ends_advance : (limit c : ℕ) (ks : List OpenKind) (s : List ℕ) (ts : List TimedEvent) → JsonEnds limit ks (c ∷ s) ts
    → Advances limit (at after ks) (c ∷ [])
ends_advance limit c ks s ts h =
    by_white limit (at after ks) c (is_whitespace c) tt tt refl (λ black. after_advances limit c ks s ts black h)

-- in a literal name
word_advances : (limit c : ℕ) (w : Literal) (taken : ℕ) (ks : List OpenKind) (s : List ℕ) (ts : List TimedEvent)
    → taken < length (letters w) → JsonRestAt limit (word w taken) ks (c ∷ s) ts → Advances limit (at (word w taken) ks) (c ∷ [])
word_advances limit c w taken ks s ts inside (r, us, e, en, timed) =
    let more = drop_more (letters w) taken 0 inside in
    let is = heads c (get_or (letters w) taken 0) s (drop (taken + 1) (letters w) ++ r) (e ∙ ap (λ x. x ++ r) more) in
    let cut : drop taken (letters w) ≡ c ∷ drop (taken + 1) (letters w) = more ∙ ap (λ x. x ∷ drop (taken + 1) (letters w)) (sym is) in
    elim (cases_lt (taken + 1) (length (letters w))) [
      | inl further ↦ ([], at (word w (taken + 1)) ks, letter_leads limit w taken c ks cut, further)
      | inr last ↦
          let none : drop (taken + 1) (letters w) ≡ [] = drop_all (taken + 1) (letters w) last in
          (literal_event w ∷ [], at after ks, word_ends limit w taken c ks (cut ∙ ap (λ x. c ∷ x) none), tt)
    ]

-- in a number: a byte more of it, or one behind it
number_byte_among : (b : List ℕ) (c : ℕ) (u : List ℕ) → AreNumberBytes (b ++ c ∷ u) → IsNumberByte c
number_byte_among [] c u h = h.0
number_byte_among (d ∷ b) c u h = number_byte_among b c u h.1

number_advances : (limit c : ℕ) (b : List ℕ) (ks : List OpenKind) (s : List ℕ) (ts : List TimedEvent)
    → JsonRestAt limit (numeral b) ks (c ∷ s) ts → Advances limit (at (numeral b) ks) (c ∷ [])
number_advances limit c b ks s ts (n, [], r, us, e, x, en, timed) =
    let is : NumberText n b = subst (NumberText n) (append-nil b) x in
    let behind : JsonEnds limit ks (c ∷ s) us = subst (λ y. JsonEnds limit ks y us) (sym e) en in
    let stop : (u : List ℕ) → IsNumber (b ++ c ∷ u) → ⊥ =
    λ u num. number_ends_before limit c ks s us (number_byte_among b c u (number_bytes (b ++ c ∷ u) num)) behind in
    let (out, y, leads, stands) = ends_advance limit c ks s us behind in
    (events n [] ++ out, y, number_ends limit b n c ks out y stop (λ m h. one_node m n b h is) is leads, stands)
number_advances limit c b ks s ts (n, d ∷ u, r, us, e, x, en, timed) =
    let same = heads c d s (u ++ r) e in
    let byte : IsNumberByte c =
    subst IsNumberByte (sym same) (number_byte_among b d u (number_bytes (b ++ d ∷ u) (number_is n (b ++ d ∷ u) x))) in
    ([], at (numeral (b ++ c ∷ [])) ks, number_byte_leads limit b c ks byte, tt)

-- at each place that is none of a string
abbrev IsNoString : Where → Type 0
IsNoString (in_text role spot b) = ⊥
IsNoString value = Unit {0}
IsNoString first_entry = Unit {0}
IsNoString first_key = Unit {0}
IsNoString next_key = Unit {0}
IsNoString colon = Unit {0}
IsNoString after = Unit {0}
IsNoString (word w taken) = Unit {0}
IsNoString (numeral b) = Unit {0}

advances : (limit c : ℕ) (p : Where) (ks : List OpenKind) (s : List ℕ) (ts : List TimedEvent) → IsNoString p → Stands p
    → JsonRestAt limit p ks (c ∷ s) ts → Advances limit (at p ks) (c ∷ [])
advances limit c value ks s ts no_string stands h =
    by_white limit (at value ks) c (is_whitespace c) tt tt refl
    (λ black. value_advances limit c ks s ts black (value_here limit ks c s ts black h))
advances limit c first_entry ks s ts no_string stands h =
    by_white limit (at first_entry ks) c (is_whitespace c) tt tt refl (λ black. entry_advances limit c ks s ts black h)
advances limit c first_key ks s ts no_string stands h =
    by_white limit (at first_key ks) c (is_whitespace c) tt tt refl (λ black. pair_advances limit c ks s ts black h)
advances limit c next_key ks s ts no_string stands h =
    by_white limit (at next_key ks) c (is_whitespace c) tt tt refl (λ black. name_advances limit c ks s ts black h)
advances limit c colon ks s ts no_string stands h =
    by_white limit (at colon ks) c (is_whitespace c) tt tt refl (λ black. colon_advances limit c ks s ts black h)
advances limit c after ks s ts no_string stands h = ends_advance limit c ks s ts h
advances limit c (word w taken) ks s ts no_string stands h = word_advances limit c w taken ks s ts stands h
advances limit c (numeral b) ks s ts no_string stands h = number_advances limit c b ks s ts h
advances limit c (in_text role spot b) ks s ts no_string stands h = absurd no_string

-- the bytes lead on as far as a string that they don't end; whatever comes there, nothing of it is complete within them
abbrev pub IsQuiet : ℕ → JsonState → List ℕ → Type 0
IsQuiet limit y w = (s : List ℕ) (ts : List TimedEvent) → JsonRest limit y (w ++ s) ts → AreLater (length s) ts

pub record Runs (limit : ℕ) (x : JsonState) (bs : List ℕ) : Type 0 where
  pub led : List ℕ
  pub cut : List ℕ
  pub parts : bs ≡ led ++ cut
  pub out : List NodeEvent
  pub there : JsonState
  pub leads : JsonLeads limit x led out there
  pub quiet : IsQuiet limit there cut

going_on : (p : Where) → Stands p → IsGoingOn p
going_on value h = tt
going_on first_entry h = tt
going_on first_key h = tt
going_on next_key h = tt
going_on colon h = tt
going_on after h = tt
going_on (word w taken) h = h
going_on (numeral b) h = tt
going_on (in_text role spot b) h = subst IsLive (sym h.0) tt

none_left : (limit : ℕ) (x : JsonState) → Stands x.place → Runs limit x []
none_left limit x stands = record {
  led = [];
  cut = [];
  parts = refl;
  out = [];
  there = x;
  leads = leads_none limit x;
  quiet = λ s ts h. rest_later limit x.place x.lists s ts (going_on x.place stands) h;
}

-- some bytes, and then those that run from there
runs_on : (limit : ℕ) (x y : JsonState) (v w : List ℕ) (out : List NodeEvent) → JsonLeads limit x v out y → Runs limit y w
    → Runs limit x (v ++ w)
runs_on limit x y v w out leads rest = record {
  led = v ++ rest.led;
  cut = rest.cut;
  parts = ap (λ u. v ++ u) rest.parts ∙ sym (append_assoc v rest.led rest.cut);
  out = out ++ rest.out;
  there = rest.there;
  leads = leads_joined limit x y rest.there v rest.led out rest.out leads rest.leads;
  quiet = rest.quiet;
}

-- a string that isn't whole: whatever follows, it ends no sooner
open_string : (w t s r u q v : List ℕ) → TextRest Plain [] (w ++ s) t r → length r < length s → TextRest Plain [] (w ++ v) u q
    → length q < length v
open_string w t s r u q v h less other = elim (cases_lt (length q) (length v)) [
  | inl sooner ↦ sooner
  | inr later ↦
      let (a, is, cut) = text_cut u (w ++ v) q other in
      let (b, parts, rest) = cut_within a w q v (sym is) later in
      let there : TextRest Plain [] (w ++ s) u (b ++ s) =
      subst (λ x. TextRest Plain [] x u (b ++ s)) (sym (append_assoc a b s) ∙ ap (λ x. x ++ s) (sym parts)) (cut (b ++ s)) in
      let (same, end) = one_rest u t (w ++ s) (b ++ s) r there h in
      absurd (omega (arith, ap length end, length-append b s))
]

-- the place behind a quotation mark
behind_mark : (P : Where → Type 0) (role : Role) (spot : Spot) (b : List ℕ) → Stands (in_text role spot b) → P (in_text role Plain [])
    → P (in_text role spot b)
behind_mark P role spot b (plain, none) h =
    subst (λ x. P (in_text role x b)) (sym plain) (subst (λ x. P (in_text role Plain x)) (sym none) h)

from_mark : (P : Where → Type 0) (role : Role) (spot : Spot) (b : List ℕ) → Stands (in_text role spot b) → P (in_text role spot b)
    → P (in_text role Plain [])
from_mark P role spot b (plain, none) h = subst (λ x. P (in_text role Plain x)) none (subst (λ x. P (in_text role x b)) plain h)

-- the parts of a string that its bytes end
shorter_behind : (n : ℕ) (bs w b t : List ℕ) → length bs ≤ suc n → bs ≡ w ++ b → TextRest Plain [] (w ++ []) t [] → length b ≤ n
shorter_behind n bs w b t few is rest =
    let some = text_rest_shorter Plain [] (w ++ []) t [] tt rest in
    omega (arith, ap length is, length-append w b, length-append w [])

key_runs : (n limit : ℕ) (ks : List OpenKind) (bs more : List ℕ) (ts : List TimedEvent) → length bs ≤ suc n
    → ((b : List ℕ) (us : List TimedEvent) → length b ≤ n → ColonComes limit ks (b ++ more) us → Runs limit (at colon ks) b)
    → JsonRestAt limit (in_text Key Plain []) ks (bs ++ more) ts → Runs limit (at (in_text Key Plain []) ks) bs
key_runs n limit ks bs more ts few next (t, r, us, h, co, timed) = elim (cases_lt (length r) (length more)) [
  | inl less ↦ record {
    led = [];
    cut = bs;
    parts = refl;
    out = [];
    there = at (in_text Key Plain []) ks;
    leads = leads_none limit (at (in_text Key Plain []) ks);
    quiet = λ s vs (u, q, ws, rest, co1, timed1).
        spoken_later (key_event u) s q vs ws (open_string bs t more r u q s h less rest) timed1 (colon_later limit ks q ws co1);
  }
  | inr ends ↦
      let (w, is, cut) = text_cut t (bs ++ more) r h in
      let (b, parts, rest) = cut_within w bs r more (sym is) ends in
      let closes = key_closes limit Plain [] w t ks
      (λ s u q g. let (same, end) = one_rest t u (w ++ s) s q (cut s) g in (same, sym end)) cut in
      subst (Runs limit (at (in_text Key Plain []) ks)) (sym parts)
      (runs_on limit (at (in_text Key Plain []) ks) (at colon ks) w b (key_event t ∷ []) closes
      (next b us (shorter_behind n bs w b t few parts (cut [])) (subst (λ x. ColonComes limit ks x us) rest co)))
]

text_runs : (n limit : ℕ) (ks : List OpenKind) (bs more : List ℕ) (ts : List TimedEvent) → length bs ≤ suc n
    → ((b : List ℕ) (us : List TimedEvent) → length b ≤ n → JsonEnds limit ks (b ++ more) us → Runs limit (at after ks) b)
    → JsonRestAt limit (in_text Value Plain []) ks (bs ++ more) ts → Runs limit (at (in_text Value Plain []) ks) bs
text_runs n limit ks bs more ts few next (t, r, us, h, en, timed) = elim (cases_lt (length r) (length more)) [
  | inl less ↦ record {
    led = [];
    cut = bs;
    parts = refl;
    out = [];
    there = at (in_text Value Plain []) ks;
    leads = leads_none limit (at (in_text Value Plain []) ks);
    quiet = λ s vs (u, q, ws, rest, en1, timed1).
        spoken_later (text_event u) s q vs ws (open_string bs t more r u q s h less rest) timed1 (ends_later limit ks q ws en1);
  }
  | inr ends ↦
      let (w, is, cut) = text_cut t (bs ++ more) r h in
      let (b, parts, rest) = cut_within w bs r more (sym is) ends in
      let closes = text_closes limit Plain [] w t ks
      (λ s u q g. let (same, end) = one_rest t u (w ++ s) s q (cut s) g in (same, sym end)) cut in
      subst (Runs limit (at (in_text Value Plain []) ks)) (sym parts)
      (runs_on limit (at (in_text Value Plain []) ks) (at after ks) w b (text_event t ∷ []) closes
      (next b us (shorter_behind n bs w b t few parts (cut [])) (subst (λ x. JsonEnds limit ks x us) rest en)))
]

-- one byte at any other place, and those behind it
byte_runs : (limit c : ℕ) (p : Where) (ks : List OpenKind) (bs more : List ℕ) (ts : List TimedEvent) → IsNoString p → Stands p
    → ((q : Where) (js : List OpenKind) (us : List TimedEvent) → Stands q → JsonRestAt limit q js (bs ++ more) us → Runs limit (at q js) bs)
    → JsonRestAt limit p ks (c ∷ (bs ++ more)) ts → Runs limit (at p ks) (c ∷ bs)
byte_runs limit c p ks bs more ts no_string stands next h =
    let (out, y, leads, there) = advances limit c p ks (bs ++ more) ts no_string stands h in
    let (os, us, e, hands, rest) = leads.onward (bs ++ more) ts h in
    runs_on limit (at p ks) y (c ∷ []) bs out leads (next y.place y.lists us there rest)

runs : (n limit : ℕ) (p : Where) (ks : List OpenKind) (bs more : List ℕ) (ts : List TimedEvent) → length bs ≤ n → Stands p
    → JsonRestAt limit p ks (bs ++ more) ts → Runs limit (at p ks) bs
runs n limit p ks [] more ts few stands h = none_left limit (at p ks) stands
runs zero limit p ks (c ∷ bs) more ts few stands h = absurd (omega arith)
runs (suc n) limit (in_text Key spot b) ks (c ∷ bs) more ts few stands h =
    behind_mark (λ p. Runs limit (at p ks) (c ∷ bs)) Key spot b stands
    (key_runs n limit ks (c ∷ bs) more ts few (λ d us less co. runs n limit colon ks d more us less tt co)
    (from_mark (λ p. JsonRestAt limit p ks (c ∷ (bs ++ more)) ts) Key spot b stands h))
runs (suc n) limit (in_text Value spot b) ks (c ∷ bs) more ts few stands h =
    behind_mark (λ p. Runs limit (at p ks) (c ∷ bs)) Value spot b stands
    (text_runs n limit ks (c ∷ bs) more ts few (λ d us less en. runs n limit after ks d more us less tt en)
    (from_mark (λ p. JsonRestAt limit p ks (c ∷ (bs ++ more)) ts) Value spot b stands h))
runs (suc n) limit p ks (c ∷ bs) more ts few stands h =
    byte_runs limit c p ks bs more ts tt stands (λ q js us there rest. runs n limit q js bs more us (omega arith) there rest) h

-- from the first byte on: the events of a text are those that the run handed on, and later ones
module _ (bs : List ℕ) (run : Runs most_levels json_start bs) where
  told_apart : (more : List ℕ) (ts : List TimedEvent) → JsonRest most_levels json_start (bs ++ more) ts
      → (os us : List TimedEvent) × (ts ≡ os ++ us) × HandsOn (length more) os run.out × AreLater (length more) us
  told_apart more ts h =
      let is : bs ++ more ≡ run.led ++ (run.cut ++ more) = ap (λ x. x ++ more) run.parts ∙ append_assoc run.led run.cut more in
      let (os, us, e, hands, rest) = run.leads.onward (run.cut ++ more) ts (subst (λ x. JsonRest most_levels json_start x ts) is h) in (
        os,
        us,
        e,
        hands_sooner (length (run.cut ++ more)) (length more) os run.out (omega (arith, length-append run.cut more)) hands,
        run.quiet more us rest,
      )

  handed_only : (es : List NodeEvent) → Completes json_timing bs es → es ≡ run.out
  handed_only es (more, n, ts, timed, room, is) =
      let (os, us, e, hands, later) = told_apart more ts (timed_start most_levels (bs ++ more) n ts timed room) in
      is ∙ ap (complete_with (length more)) e ∙ handed_complete (length more) os us run.out hands later

some_run : (bs more : List ℕ) (ts : List TimedEvent) → JsonRest most_levels json_start (bs ++ more) ts → Runs most_levels json_start bs
some_run bs more ts h = runs (length bs) most_levels value [] bs more ts (omega arith) tt h

pub has_one_completion : HasOneCompletion json_timing
has_one_completion bs es fs (more, n, ts, timed, room, is) other =
    let run = some_run bs more ts (timed_start most_levels (bs ++ more) n ts timed room) in
    handed_only bs run es (more, n, ts, timed, room, is) ∙ sym (handed_only bs run fs other)

pub goes_further : GoesFurther json_timing
goes_further bs more es fs first (behind, n, ts, timed, room, is) =
    let h = subst (λ x. JsonRest most_levels json_start x ts) (append_assoc bs more behind)
    (timed_start most_levels ((bs ++ more) ++ behind) n ts timed room) in
    let run = some_run bs (more ++ behind) ts h in
    let (os, us, e, hands, later) = told_apart bs run (more ++ behind) ts h in
    let sooner =
    hands_sooner (length (more ++ behind)) (length behind) os run.out (omega (arith, length-append more behind)) hands in (
      complete_with (length behind) us,
      is ∙ ap (complete_with (length behind)) e ∙ handed_before (length behind) os us run.out sooner
          ∙ ap (λ x. x ++ complete_with (length behind) us) (sym (handed_only bs run es first)),
    )

pub begins_trees : BeginsTrees json_timing
begins_trees bs es (more, n, ts, timed, room, is) =
    let h = timed_start most_levels (bs ++ more) n ts timed room in
    let run = some_run bs more ts h in
    let (os, us, e, hands, later) = told_apart bs run more ts h in
    let all : events n [] ≡ es ++ untimed us =
    sym (timed_text n (bs ++ more) ts timed).1 ∙ ap untimed e ∙ handed_untimed (length more) os us run.out hands
    ∙ ap (λ x. x ++ untimed us) (sym (handed_only bs run es (more, n, ts, timed, room, is))) in
    (n, untimed us, subst (λ x. Streams n x []) all (events_stream n []), room)

pub times_texts : TimesTexts JsonText json_timing
times_texts = record {
  timed = text_timed;
  text = λ n bs ts h. (timed_text n bs ts h).0;
  streams = λ n bs ts h. subst (λ es. Streams n es []) (sym (timed_text n bs ts h).1) (events_stream n []);
}
