-- The bytes that are written for a prefix of a tree's stream. Each event has its own text, and a comma stands between two
-- events where the first ends a value and the second isn't an end: there another entry or pair begins. For a whole stream
-- they are the tree's written text, and for a prefix of it one of that text.
use Rattle.std.specs.Prelude.{◌≡◌, ◌↔◌, Bool, true, false, cond, ℕ, List, [], ◌∷◌, ◌++◌, codes, IsUtf8, FitsSigned}
use Rattle.std.specs.Int.{w64}
use Rattle.std.specs.Fmt.{signed_decimal}
use Rattle.sm_bytes.specs.Ascii.{comma, colon, left_bracket, right_bracket, left_brace, right_brace}
use Rattle.sm_tree.specs.Node.{Node, number}
use Rattle.sm_tree.specs.Events.{NodeEvent, null_event, bool_event, int_event, number_event, text_event, bytes_event, tag_event}
use Rattle.sm_tree.specs.Events.{opaque_event, start_list, end_list, start_object, key_event, end_object}
use Rattle.sm_tree.specs.Streams.{Streams, TakesEach}
use Rattle.sm_tree.specs.Json.{IsJson}
use Rattle.sm_tree.specs.Numbers.{NumberText}
use Rattle.sm_json.specs.JsonText.{bool_word}
use Rattle.sm_json.specs.Written.{written, written_text}

-- a value ends with this event: it is a leaf, or the end of a list or an object
abbrev pub ends_value : NodeEvent → Bool
ends_value null_event = true
ends_value (bool_event b) = true
ends_value (int_event z) = true
ends_value (number_event t) = true
ends_value (text_event t) = true
ends_value (bytes_event t) = true
ends_value (tag_event k) = false
ends_value (opaque_event b) = true
ends_value (start_list count) = false
ends_value end_list = true
ends_value (start_object count) = false
ends_value (key_event k) = false
ends_value end_object = true

-- a list or an object ends with this event
abbrev pub is_end : NodeEvent → Bool
is_end null_event = false
is_end (bool_event b) = false
is_end (int_event z) = false
is_end (number_event t) = false
is_end (text_event t) = false
is_end (bytes_event t) = false
is_end (tag_event k) = false
is_end (opaque_event b) = false
is_end (start_list count) = false
is_end end_list = true
is_end (start_object count) = false
is_end (key_event k) = false
is_end end_object = true

-- an event's own text. Byte strings, tags and opaque leaves have none: they stand in no tree that JSON can spell
abbrev pub event_text : NodeEvent → List ℕ
event_text null_event = codes "null"
event_text (bool_event b) = bool_word b
event_text (int_event z) = signed_decimal z
event_text (number_event t) = t
event_text (text_event t) = written_text t
event_text (bytes_event t) = []
event_text (tag_event k) = []
event_text (opaque_event b) = []
event_text (start_list count) = left_bracket ∷ []
event_text end_list = right_bracket ∷ []
event_text (start_object count) = left_brace ∷ []
event_text (key_event k) = written_text k ++ colon ∷ []
event_text end_object = right_brace ∷ []

-- what stands before an event: a comma where a value has ended before it, and the event isn't an end
abbrev pub comma_before : Bool → NodeEvent → List ℕ
comma_before ended e = cond ended (cond (is_end e) [] (comma ∷ [])) []

-- the texts of these events, where d is the event before them
abbrev pub written_behind : NodeEvent → List NodeEvent → List ℕ
written_behind d [] = []
written_behind d (e ∷ es) = comma_before (ends_value d) e ++ (event_text e ++ written_behind e es)

-- the bytes that are written for these events, the first ones of a stream
abbrev pub written_events : List NodeEvent → List ℕ
written_events [] = []
written_events (e ∷ es) = event_text e ++ written_behind e es

-- the last of these events, of which d is the first, ends a value
abbrev pub ended_behind : NodeEvent → List NodeEvent → Bool
ended_behind d [] = ends_value d
ended_behind d (e ∷ es) = ended_behind e es

-- a value has ended with the last of these events
abbrev pub value_ended : List NodeEvent → Bool
value_ended [] = false
value_ended (e ∷ es) = ended_behind e es

-- the event stands in a stream of some tree that JSON can spell
abbrev pub StandsInJson : NodeEvent → Type 0
StandsInJson e = (n : Node) × (ds es : List NodeEvent) × IsJson n × Streams n (ds ++ e ∷ es) []

-- a tree that JSON can spell may have this event
abbrev pub IsJsonEvent : NodeEvent → Type 0
IsJsonEvent null_event = Unit {0}
IsJsonEvent (bool_event b) = Unit {0}
IsJsonEvent (int_event z) = FitsSigned w64 z
IsJsonEvent (number_event t) = NumberText (number t) t
IsJsonEvent (text_event t) = IsUtf8 t
IsJsonEvent (bytes_event t) = ⊥
IsJsonEvent (tag_event k) = ⊥
IsJsonEvent (opaque_event b) = ⊥
IsJsonEvent (start_list count) = Unit {0}
IsJsonEvent end_list = Unit {0}
IsJsonEvent (start_object count) = Unit {0}
IsJsonEvent (key_event k) = IsUtf8 k
IsJsonEvent end_object = Unit {0}

-- these are exactly the events that stand in such trees
abbrev pub JsonEventsStand : Type 0
JsonEventsStand = (e : NodeEvent) → IsJsonEvent e ↔ StandsInJson e

-- each event of a stream of such a tree is one
abbrev pub JsonStreamsAreTaken : Type 0
JsonStreamsAreTaken = (n : Node) (es : List NodeEvent) → IsJson n → Streams n es [] → TakesEach IsJsonEvent es

-- for each stream of a tree the bytes are the tree's written text
abbrev pub WrittenEventsAreTree : Type 0
WrittenEventsAreTree = (n : Node) (es : List NodeEvent) → IsJson n → Streams n es [] → written_events es ≡ written n

-- for a prefix of one they are a prefix of that text
abbrev pub WrittenEventsBegin : Type 0
WrittenEventsBegin =
    (n : Node) (es more : List NodeEvent) → IsJson n → Streams n (es ++ more) []
    → (rest : List ℕ) × (written n ≡ written_events es ++ rest)
