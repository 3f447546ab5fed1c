-- What a reader stands for, what it keeps, and what its steps do. The contracts of the reader's methods cite
-- it; that of `read_tree` doesn't.
use Rattle.std.specs.Prelude.{◌≡◌, ℕ, ◌+◌, ◌≤◌, ◌<◌, Bool, true, false, List, [], ◌∷◌, take, drop, length, ◌⊎◌, Result, Ok, Err}
use Rattle.std.specs.Prelude.{slice_index}
use Rattle.sm_bytes.specs.Ascii.{small_f, small_n, small_t}
use Rattle.sm_tree.specs.Node.{Node}
use Rattle.sm_tree.specs.Syntax.{most_levels}
use Rattle.sm_tree.specs.Numbers.{NumberText}
use Rattle.sm_tree.specs.Events.{NodeEvent, events, key_event, text_event}
use Rattle.sm_tree.specs.Streams.{StandsFor, Takes, TakesEvery}
use Rattle.sm_tree.specs.Timing.{TimedEvent, untimed}
use Rattle.sm_tree.specs.Building.{IsIn}
use Rattle.sm_tree.specs.declared.build.OpenKind.{OpenKind}
use Rattle.sm_tree.specs.declared.build.OpenKind.TheVariants.{List as a_list, Object as an_object}
use Rattle.sm_tree.specs.declared.refusal.SyntaxRefusal.{SyntaxRefusal}
use Rattle.sm_tree.specs.declared.refusal.SyntaxRefusal.TheVariants.{Bad, Ended, TooDeep, KeyKind, NoMemory}
use Rattle.sm_json.specs.Strings.{is_whitespace}
use Rattle.sm_json.specs.declared.text.TextRefusal.{TextRefusal}
use Rattle.sm_json.specs.declared.text.TextRefusal.TheVariants.{Bad as BadString, NoMemory as NoRoom}
use Rattle.sm_tree.specs.NumberTail.{NumberLeads, NumberStops}
use Rattle.sm_tree.specs.declared.number.Run.{Run}
use Rattle.sm_tree.specs.Nested.{nested_in}
use Rattle.sm_tree.specs.steps.Handing.{TakesAll}
use Rattle.sm_json.specs.steps.Feeding.{IsPlaced}
use Rattle.sm_json.specs.steps.StringReading.{string_so_far}
use Rattle.sm_json.specs.steps.Rest.{Where, value, first_entry, first_key, next_key, colon, after, word, numeral, in_text, JsonState}
use Rattle.sm_json.specs.steps.Rest.{letters, JsonRest, JsonLeads, JsonGoesOn, JsonStops}
use Rattle.sm_tree.specs.declared.number.Phase.TheVariants.{Start}
use Rattle.sm_json.specs.declared.spot.Spot.{Spot}
use Rattle.sm_json.specs.declared.place.JsonPlace.{JsonPlace}
use Rattle.sm_json.specs.declared.place.JsonPlace.TheVariants.{Value, FirstEntry, FirstKey, NextKey, Colon, After, Word, Number, Text}
use Rattle.sm_json.specs.declared.place.Literal.{Literal}
use Rattle.sm_json.specs.declared.place.Literal.TheVariants.{Null, True, False}
use Rattle.sm_json.specs.declared.place.Role.{Role}
use Rattle.sm_json.specs.declared.place.Role.TheVariants.{Key, Value as Whole}
use Rattle.sm_json.specs.declared.read.Reader.{Reader}

-- whitespace and nothing else
abbrev pub AllWhitespace : List ℕ → Type 0
AllWhitespace [] = Unit {0}
AllWhitespace (c ∷ cs) = (is_whitespace c ≡ true) × AllWhitespace cs

-- where a reader stands that has begun a number or a text with these bytes
abbrev pub where_of : JsonPlace → List ℕ → Spot → List ℕ → Where
where_of Value b spot t = value
where_of FirstEntry b spot t = first_entry
where_of FirstKey b spot t = first_key
where_of NextKey b spot t = next_key
where_of Colon b spot t = colon
where_of After b spot t = after
where_of (Word w taken) b spot t = word w taken
where_of (Number phase) b spot t = numeral b
where_of (Text role) b spot t = in_text role spot t

-- what is open around the reader's place
abbrev pub lists_of : Reader → List OpenKind
lists_of r = nested_in r.lists

abbrev pub json_state : Reader → JsonState
json_state r = record { place = where_of r.place r.number.items r.text.spot (string_so_far r.text); lists = lists_of r }

-- what each place keeps
abbrev pub PlaceKeeps : JsonPlace → List ℕ → List OpenKind → Type 0
PlaceKeeps Value b ks = Unit {0}
PlaceKeeps FirstEntry b ks = IsIn a_list ks
PlaceKeeps FirstKey b ks = IsIn an_object ks
PlaceKeeps NextKey b ks = Unit {0}
PlaceKeeps Colon b ks = Unit {0}
PlaceKeeps After b ks = Unit {0}
PlaceKeeps (Word w taken) b ks = taken < length (letters w)
PlaceKeeps (Number phase) b ks = NumberLeads Start b phase
PlaceKeeps (Text role) b ks = Unit {0}

-- what holds of a reader between two bytes
abbrev pub JsonIsSound : Reader → Type 0
JsonIsSound r = PlaceKeeps r.place r.number.items (lists_of r)

-- the sink takes every event, and stands for what came before this reader's place
pub record JsonIsPlaced (r : Reader) (S : StandsFor) (takes : Takes) : Type 0 where
  pub takes_all : TakesEvery takes
  pub placed : IsPlaced (json_state r) S

-- the bytes w lead from one state to another, and complete the events `out`: at each limit from the reader's on
abbrev pub LeadsTo : JsonState → List ℕ → List NodeEvent → JsonState → Type 0
LeadsTo before w out behind = (limit : ℕ) → most_levels ≤ limit → JsonLeads limit before w out behind

-- the bytes w lead the reader on, and complete the events `out`
pub record JsonGoes (before : Reader) (w : List ℕ) (out : List NodeEvent) (behind : Reader) : Type 0 where
  pub leads : LeadsTo (json_state before) w out (json_state behind)
  pub sound : JsonIsSound behind

-- and the sink was handed them
pub record JsonBrings (before : Reader) (S : StandsFor) (w : List ℕ) (behind : Reader) (T : StandsFor) (takes : Takes) : Type 0 where
  pub out : List NodeEvent
  pub goes : JsonGoes before w out behind
  pub hands : TakesAll S out T
  pub takes_all : TakesEvery takes

-- a step that was refused: the sink stands for what it stood for
pub record JsonKeeps (S T : StandsFor) (takes : Takes) : Type 0 where
  pub stands : TakesAll S [] T
  pub takes_all : TakesEvery takes

-- the reader's state once its value has ended
abbrev pub behind_value : Reader → JsonState
behind_value r = record { place = after; lists = lists_of r }

-- with the byte c no text goes on from this state, however deep texts may nest
abbrev pub Halts : JsonState → ℕ → Type 0
Halts x c = (limit : ℕ) → JsonStops limit x c

-- a byte behind a value: some text goes on with it, or none does
abbrev pub MayFollow : Reader → ℕ → Bool → Type 0
MayFollow r c true = JsonGoesOn most_levels (behind_value r) (c ∷ [])
MayFollow r c false = Halts (behind_value r) c

-- the byte c opens one level too many: none of the texts that are read goes on with it, and a deeper one does
pub record Deepens (x : JsonState) (c : ℕ) : Type 0 where
  pub stops : JsonStops most_levels x c
  pub deeper : JsonGoesOn (most_levels + 1) x (c ∷ [])

-- what a byte does to the reader and the sink
abbrev pub JsonTakesByte : Reader → StandsFor → ℕ → Reader → StandsFor → Takes → Result (Unit {0}) SyntaxRefusal → Type 0
JsonTakesByte before S c behind T takes (Ok x) = JsonBrings before S (c ∷ []) behind T takes
JsonTakesByte before S c behind T takes (Err NoMemory) = Unit {0}
JsonTakesByte before S c behind T takes (Err (Bad at)) = (at ≡ 0) × Halts (json_state before) c × JsonKeeps S T takes
JsonTakesByte before S c behind T takes (Err Ended) = ⊥
JsonTakesByte before S c behind T takes (Err (TooDeep at)) = (at ≡ 0) × Deepens (json_state before) c × JsonKeeps S T takes
JsonTakesByte before S c behind T takes (Err (KeyKind at)) = ⊥

-- what it does where it completes no event and opens nothing
abbrev pub JsonStepsByte : Reader → ℕ → Reader → Result (Unit {0}) SyntaxRefusal → Type 0
JsonStepsByte before c behind (Ok x) = JsonGoes before (c ∷ []) [] behind
JsonStepsByte before c behind (Err NoMemory) = Unit {0}
JsonStepsByte before c behind (Err (Bad at)) = (at ≡ 0) × Halts (json_state before) c
JsonStepsByte before c behind (Err Ended) = ⊥
JsonStepsByte before c behind (Err (TooDeep at)) = ⊥
JsonStepsByte before c behind (Err (KeyKind at)) = ⊥

-- the places where a list and an object may end
abbrev pub ClosesAt : OpenKind → JsonPlace → Type 0
ClosesAt a_list p = (p ≡ FirstEntry) ⊎ (p ≡ After)
ClosesAt an_object p = (p ≡ FirstKey) ⊎ (p ≡ After)

-- what was open innermost has ended, and the reader stands behind it
pub record HasClosed (before behind : Reader) : Type 0 where
  pub lists : lists_of behind ≡ drop 1 (lists_of before)
  pub place : behind.place ≡ After

-- the first letter of a literal name
abbrev pub first_letter : Literal → ℕ
first_letter Null = small_n
first_letter True = small_t
first_letter False = small_f

-- the places where a string of this role may begin
abbrev pub BeginsString : Role → JsonPlace → Type 0
BeginsString Key p = p ≡ NextKey
BeginsString Whole p = p ≡ Value

-- of the bytes that come at this state, those before the place begin the rest of a text that is read, and with
-- the byte at the place none goes on, however deep texts may nest
pub record HaltsAt (x : JsonState) (bs : List ℕ) (at : ℕ) : Type 0 where
  pub inside : at < length bs
  pub before : JsonGoesOn most_levels x (take at bs)
  pub behind : (limit : ℕ) → most_levels ≤ limit → JsonGoesOn limit x (take (at + 1) bs) → ⊥

-- and with the byte at the place only deeper ones go on
pub record DeepensAt (x : JsonState) (bs : List ℕ) (at : ℕ) : Type 0 where
  pub inside : at < length bs
  pub before : JsonGoesOn most_levels x (take at bs)
  pub deeper : JsonGoesOn (most_levels + 1) x (take (at + 1) bs)
  pub stops : JsonGoesOn most_levels x (take (at + 1) bs) → ⊥

-- the sink was handed what the bytes before a place complete, and nothing more
pub record JsonBringsTo (before : Reader) (S : StandsFor) (bs : List ℕ) (at : ℕ) (T : StandsFor) (takes : Takes) : Type 0 where
  pub there : Reader
  pub fed : JsonBrings before S (take at bs) there T takes

-- what the reader makes of some bytes, from the first one on: it takes so many of them, or refuses one of them
abbrev pub JsonTakesPrefix : Reader → StandsFor → List ℕ → Reader → StandsFor → Takes → Result ℕ SyntaxRefusal → Type 0
JsonTakesPrefix before S bs behind T takes (Ok n) = (0 < n) × (n ≤ length bs) × JsonBrings before S (take n bs) behind T takes
JsonTakesPrefix before S bs behind T takes (Err NoMemory) = Unit {0}
JsonTakesPrefix before S bs behind T takes (Err (Bad at)) = HaltsAt (json_state before) bs at × JsonBringsTo before S bs at T takes
JsonTakesPrefix before S bs behind T takes (Err Ended) = ⊥
JsonTakesPrefix before S bs behind T takes (Err (TooDeep at)) = DeepensAt (json_state before) bs at × JsonBringsTo before S bs at T takes
JsonTakesPrefix before S bs behind T takes (Err (KeyKind at)) = ⊥

-- what it makes of all of them
abbrev pub JsonTakesAll : Reader → StandsFor → List ℕ → Reader → StandsFor → Takes → Result (Unit {0}) SyntaxRefusal → Type 0
JsonTakesAll before S bs behind T takes (Ok x) = JsonBrings before S bs behind T takes
JsonTakesAll before S bs behind T takes (Err NoMemory) = Unit {0}
JsonTakesAll before S bs behind T takes (Err (Bad at)) = HaltsAt (json_state before) bs at × JsonBringsTo before S bs at T takes
JsonTakesAll before S bs behind T takes (Err Ended) = ⊥
JsonTakesAll before S bs behind T takes (Err (TooDeep at)) = DeepensAt (json_state before) bs at × JsonBringsTo before S bs at T takes
JsonTakesAll before S bs behind T takes (Err (KeyKind at)) = ⊥

-- the bytes end here: the sink was handed the events that the end completes, or no text ends so
abbrev pub JsonEndsText : Reader → StandsFor → StandsFor → Takes → Result (Unit {0}) SyntaxRefusal → Type 0
JsonEndsText reader S T takes (Ok x) =
    (last : List TimedEvent) × JsonRest most_levels (json_state reader) [] last × TakesAll S (untimed last) T × TakesEvery takes
JsonEndsText reader S T takes (Err NoMemory) = Unit {0}
JsonEndsText reader S T takes (Err (Bad at)) = ⊥
JsonEndsText reader S T takes (Err Ended) = (ts : List TimedEvent) → JsonRest most_levels (json_state reader) [] ts → ⊥
JsonEndsText reader S T takes (Err (TooDeep at)) = ⊥
JsonEndsText reader S T takes (Err (KeyKind at)) = ⊥

-- the bytes may end here: they are a text, or they are none
abbrev pub JsonMayEnd : Reader → Bool → Type 0
JsonMayEnd reader true = (last : List TimedEvent) × JsonRest most_levels (json_state reader) [] last
JsonMayEnd reader false = (ts : List TimedEvent) → JsonRest most_levels (json_state reader) [] ts → ⊥

-- whitespace may stand before the token that comes next
abbrev pub TakesWhitespace : Where → Type 0
TakesWhitespace value = Unit {0}
TakesWhitespace first_entry = Unit {0}
TakesWhitespace first_key = Unit {0}
TakesWhitespace next_key = Unit {0}
TakesWhitespace colon = Unit {0}
TakesWhitespace after = Unit {0}
TakesWhitespace (word w taken) = ⊥
TakesWhitespace (numeral b) = ⊥
TakesWhitespace (in_text role spot b) = ⊥

-- the bytes of the run have been taken by the number, and the next one, if there is one, doesn't go on with it
pub record Grows (before : Reader) (bs : List ℕ) (run : Run) (behind : Reader) : Type 0 where
  pub inside : run.count ≤ length bs
  pub goes : JsonGoes before (take run.count bs) [] behind
  pub place : behind.place ≡ Number run.phase
  pub stops : run.count < length bs → NumberStops run.phase (slice_index bs run.count)

-- this is the event of the number with this text
abbrev pub IsNumberEvent : List ℕ → NodeEvent → Type 0
IsNumberEvent b e = (n : Node) × NumberText n b × (events n [] ≡ e ∷ [])

-- the number has been handed on as the one tree of its text
pub record HandsNumber (reader : Reader) (S T : StandsFor) (takes : Takes) : Type 0 where
  pub tree : Node
  pub is : NumberText tree reader.number.items
  pub hands : TakesAll S (events tree []) T
  pub takes_all : TakesEvery takes

-- where a reader stands behind a string of this role, and the event of the string
abbrev pub behind_text : Role → JsonPlace
behind_text Key = Colon
behind_text Whole = After

abbrev pub text_event_of : Role → List ℕ → NodeEvent
text_event_of Key t = key_event t
text_event_of Whole t = text_event t

-- the string has been handed on, and the reader stands behind it
pub record HandsText (role : Role) (before : Reader) (S : StandsFor) (behind : Reader) (T : StandsFor) (takes : Takes) : Type 0 where
  pub hands : TakesAll S (text_event_of role (string_so_far before.text) ∷ []) T
  pub takes_all : TakesEvery takes
  pub lists : lists_of behind ≡ lists_of before
  pub place : behind.place ≡ behind_text role

-- the refusal of a string as that of a text
abbrev pub as_syntax : TextRefusal → SyntaxRefusal
as_syntax (BadString at) = Bad at
as_syntax NoRoom = NoMemory
