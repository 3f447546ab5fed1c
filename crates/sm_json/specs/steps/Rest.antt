-- What may still come of a JSON text of limited depth, from each place within it, with the events that
-- these bytes complete, each with its time. The reader's contracts are stated by it: two states of which the same may still
-- come are as good as one. Any depth is a limit, so nothing here is bound to the reader's own.
use Rattle.std.specs.Prelude.{◌≡◌, ℕ, suc, ◌+◌, ◌≤◌, List, [], ◌∷◌, ◌++◌, drop, length, codes, true, false}
use Rattle.sm_bytes.specs.Ascii.{colon as colon_mark}
use Rattle.sm_tree.specs.Node.{Node, Nodes, Members, null, bool}
use Rattle.sm_tree.specs.Levels.{levels, nodes_levels, members_levels}
use Rattle.sm_tree.specs.Events.{NodeEvent, null_event, bool_event, key_event, text_event, events}
use Rattle.sm_tree.specs.Timing.{TimedEvent, by_byte}
use Rattle.sm_tree.specs.Timing.{HandsOn}
use Rattle.sm_tree.specs.Numbers.{NumberText}
use Rattle.sm_tree.specs.declared.build.OpenKind.{OpenKind}
use Rattle.sm_tree.specs.declared.build.OpenKind.TheVariants.{List as a_list, Object as an_object}
use Rattle.sm_json.specs.Strings.{Whitespace, SpellsText}
use Rattle.sm_json.specs.Timing.{by_next, ValueTimed, EntriesTimed, MoreEntriesTimed, PairsTimed, MorePairsTimed}
use Rattle.sm_json.specs.steps.TextRest.{TextRest}
use Rattle.sm_json.specs.declared.spot.Spot.{Spot}
use Rattle.sm_json.specs.declared.place.Literal.{Literal}
use Rattle.sm_json.specs.declared.place.Literal.TheVariants.{Null, True, False}
use Rattle.sm_json.specs.declared.place.Role.{Role}
use Rattle.sm_json.specs.declared.place.Role.TheVariants.{Key, Value}

-- where a reader stands, with the bytes of the number or the text that has begun
pub data Where : Type 0 where
  value : Where
  first_entry : Where
  first_key : Where
  next_key : Where
  colon : Where
  after : Where
  word : Literal → ℕ → Where
  numeral : List ℕ → Where
  in_text : Role → Spot → List ℕ → Where

-- a place, and what is open around it, from the inside out
pub record JsonState : Type 0 where
  pub place : Where
  pub lists : List OpenKind

-- the letters of a literal name, the tree that it stands for, and its event
abbrev pub letters : Literal → List ℕ
letters Null = codes "null"
letters True = codes "true"
letters False = codes "false"

abbrev pub literal_node : Literal → Node
literal_node Null = null
literal_node True = bool true
literal_node False = bool false

abbrev pub literal_event : Literal → NodeEvent
literal_event Null = null_event
literal_event True = bool_event true
literal_event False = bool_event false

-- the one event of a number, which the byte after it completes
abbrev pub NumberTimed : Node → List ℕ → List TimedEvent → List TimedEvent → Type 0
NumberTimed n r ts us = (e : NodeEvent) × (events n [] ≡ e ∷ []) × (ts ≡ by_next e r ∷ us)

-- behind a value: the rest of all that is open, and then whitespace
abbrev pub JsonEnds : ℕ → List OpenKind → List ℕ → List TimedEvent → Type 0
JsonEnds limit [] s ts = Whitespace s [] × (ts ≡ [])
JsonEnds limit (a_list ∷ ks) s ts =
    (ns : Nodes) × (r : List ℕ) × (us : List TimedEvent) × MoreEntriesTimed ns s r ts us × (nodes_levels ns + suc (length ks) ≤ limit)
    × JsonEnds limit ks r us
JsonEnds limit (an_object ∷ ks) s ts =
    (ms : Members) × (r : List ℕ) × (us : List TimedEvent) × MorePairsTimed ms s r ts us × (members_levels ms + suc (length ks) ≤ limit)
    × JsonEnds limit ks r us

-- a value with no whitespace before it, and what is behind it
abbrev pub ValueNow : ℕ → List OpenKind → List ℕ → List TimedEvent → Type 0
ValueNow limit ks s ts =
    (n : Node) × (r : List ℕ) × (us : List TimedEvent) × ValueTimed n s r ts us × (levels n + length ks ≤ limit) × JsonEnds limit ks r us

abbrev pub ValueComes : ℕ → List OpenKind → List ℕ → List TimedEvent → Type 0
ValueComes limit ks s ts = (s1 : List ℕ) × Whitespace s s1 × ValueNow limit ks s1 ts

-- a colon, and a value
abbrev pub ColonComes : ℕ → List OpenKind → List ℕ → List TimedEvent → Type 0
ColonComes limit ks s ts = (s1 : List ℕ) × Whitespace s (colon_mark ∷ s1) × ValueComes limit ks s1 ts

-- a name, a colon and a value
abbrev pub NameNow : ℕ → List OpenKind → List ℕ → List TimedEvent → Type 0
NameNow limit ks s ts =
    (k s1 : List ℕ) × (us : List TimedEvent) × SpellsText k s s1 × ColonComes limit ks s1 us
    × (ts ≡ by_byte (key_event k) (length s1) ∷ us)

abbrev pub NameComes : ℕ → List OpenKind → List ℕ → List TimedEvent → Type 0
NameComes limit ks s ts = (s1 : List ℕ) × Whitespace s s1 × NameNow limit ks s1 ts

-- the entries of a list whose bracket has opened, and what is behind it
abbrev pub FirstEntryComes : ℕ → List OpenKind → List ℕ → List TimedEvent → Type 0
FirstEntryComes limit [] s ts = ⊥
FirstEntryComes limit (a_list ∷ ks) s ts =
    (ns : Nodes) × (r : List ℕ) × (us : List TimedEvent) × EntriesTimed ns s r ts us × (nodes_levels ns + suc (length ks) ≤ limit)
    × JsonEnds limit ks r us
FirstEntryComes limit (an_object ∷ ks) s ts = ⊥

-- the pairs of an object whose brace has opened, and what is behind it
abbrev pub FirstKeyComes : ℕ → List OpenKind → List ℕ → List TimedEvent → Type 0
FirstKeyComes limit [] s ts = ⊥
FirstKeyComes limit (a_list ∷ ks) s ts = ⊥
FirstKeyComes limit (an_object ∷ ks) s ts =
    (ms : Members) × (r : List ℕ) × (us : List TimedEvent) × PairsTimed ms s r ts us × (members_levels ms + suc (length ks) ≤ limit)
    × JsonEnds limit ks r us

-- the rest of a string, and what is behind it
abbrev pub QuotedComes : ℕ → Role → Spot → List ℕ → List OpenKind → List ℕ → List TimedEvent → Type 0
QuotedComes limit Key spot b ks s ts =
    (t r : List ℕ) × (us : List TimedEvent) × TextRest spot b s t r × ColonComes limit ks r us
    × (ts ≡ by_byte (key_event t) (length r) ∷ us)
QuotedComes limit Value spot b ks s ts =
    (t r : List ℕ) × (us : List TimedEvent) × TextRest spot b s t r × JsonEnds limit ks r us
    × (ts ≡ by_byte (text_event t) (length r) ∷ us)

-- from this place, s is the rest of a text that nests at most `limit` levels, and ts are its events
abbrev pub JsonRestAt : ℕ → Where → List OpenKind → List ℕ → List TimedEvent → Type 0
JsonRestAt limit value ks s ts = ValueComes limit ks s ts
JsonRestAt limit first_entry ks s ts = FirstEntryComes limit ks s ts
JsonRestAt limit first_key ks s ts = FirstKeyComes limit ks s ts
JsonRestAt limit next_key ks s ts = NameComes limit ks s ts
JsonRestAt limit colon ks s ts = ColonComes limit ks s ts
JsonRestAt limit after ks s ts = JsonEnds limit ks s ts
JsonRestAt limit (word w taken) ks s ts =
    (r : List ℕ) × (us : List TimedEvent) × (s ≡ drop taken (letters w) ++ r) × JsonEnds limit ks r us
    × (ts ≡ by_byte (literal_event w) (length r) ∷ us)
JsonRestAt limit (numeral b) ks s ts =
    (n : Node) × (u r : List ℕ) × (us : List TimedEvent) × (s ≡ u ++ r) × NumberText n (b ++ u) × JsonEnds limit ks r us
    × NumberTimed n r ts us
JsonRestAt limit (in_text role spot b) ks s ts = QuotedComes limit role spot b ks s ts

abbrev pub JsonRest : ℕ → JsonState → List ℕ → List TimedEvent → Type 0
JsonRest limit x s ts = JsonRestAt limit x.place x.lists s ts

-- the state before the first byte
abbrev pub json_start : JsonState
json_start = record { place = value; lists = [] }

-- the bytes w lead from one state to another, and complete the events `out`
pub record JsonLeads (limit : ℕ) (before : JsonState) (w : List ℕ) (out : List NodeEvent) (behind : JsonState) : Type 0 where
  pub onward : (s : List ℕ) (ts : List TimedEvent) → JsonRest limit before (w ++ s) ts
      → (os us : List TimedEvent) × (ts ≡ os ++ us) × HandsOn (length s) os out × JsonRest limit behind s us
  pub back : (s : List ℕ) (us : List TimedEvent) → JsonRest limit behind s us
      → (os : List TimedEvent) × HandsOn (length s) os out × JsonRest limit before (w ++ s) (os ++ us)

-- some text of at most `limit` levels goes on from this state with these bytes
abbrev pub JsonGoesOn : ℕ → JsonState → List ℕ → Type 0
JsonGoesOn limit x bs = (s : List ℕ) × (ts : List TimedEvent) × JsonRest limit x (bs ++ s) ts

-- no text goes on from this state with the byte c
abbrev pub JsonStops : ℕ → JsonState → ℕ → Type 0
JsonStops limit x c = (s : List ℕ) (ts : List TimedEvent) → JsonRest limit x (c ∷ s) ts → ⊥
