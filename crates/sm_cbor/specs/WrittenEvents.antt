-- The bytes that are written for a prefix of a tree's stream: those of each event, one after the other. An array or a map has
-- a definite length, so its opener must tell its number, and its end has no byte. For a whole stream whose openers all do
-- these bytes are the tree's written item, and for a prefix of one a prefix of that item.
use Rattle.std.specs.Prelude.{◌≡◌, ◌↔◌, ◌<◌, ◌^◌, ℕ, true, false, List, [], ◌∷◌, ◌++◌, length, None, Some, IsUtf8, FitsSigned}
use Rattle.std.specs.Int.{w64}
use Rattle.sm_tree.specs.Node.{Node}
use Rattle.sm_tree.specs.Events.{NodeEvent, null_event, bool_event, int_event, number_event, text_event, bytes_event, tag_event}
use Rattle.sm_tree.specs.Events.{opaque_event, start_list, end_list, start_object, key_event, end_object}
use Rattle.sm_tree.specs.Streams.{Streams, TakesEach}
use Rattle.sm_tree.specs.Json.{AreBytes, IsCbor}
use Rattle.sm_cbor.specs.Heads.{bytes_type, array_type, map_type, tag_type, false_byte, true_byte, null_byte}
use Rattle.sm_cbor.specs.Written.{written_head, written_int, written_text_item, written_item}

-- an event's own bytes. Numbers that are texts, opaque leaves and openers that tell no number have none: no writer takes them
abbrev pub event_item : NodeEvent → List ℕ
event_item null_event = null_byte ∷ []
event_item (bool_event false) = false_byte ∷ []
event_item (bool_event true) = true_byte ∷ []
event_item (int_event z) = written_int z
event_item (number_event t) = []
event_item (text_event t) = written_text_item t
event_item (bytes_event t) = written_head bytes_type (length t) ++ t
event_item (tag_event k) = written_head tag_type k
event_item (opaque_event b) = []
event_item (start_list None) = []
event_item (start_list (Some count)) = written_head array_type count
event_item end_list = []
event_item (start_object None) = []
event_item (start_object (Some count)) = written_head map_type count
event_item (key_event k) = written_text_item k
event_item end_object = []

-- the bytes that are written for these events, the first ones of a stream
abbrev pub written_item_events : List NodeEvent → List ℕ
written_item_events [] = []
written_item_events (e ∷ es) = event_item e ++ written_item_events es

-- the event is no opener, or one that tells its number
abbrev pub IsCounted : NodeEvent → Type 0
IsCounted null_event = Unit {0}
IsCounted (bool_event b) = Unit {0}
IsCounted (int_event z) = Unit {0}
IsCounted (number_event t) = Unit {0}
IsCounted (text_event t) = Unit {0}
IsCounted (bytes_event t) = Unit {0}
IsCounted (tag_event k) = Unit {0}
IsCounted (opaque_event b) = Unit {0}
IsCounted (start_list None) = ⊥
IsCounted (start_list (Some count)) = Unit {0}
IsCounted end_list = Unit {0}
IsCounted (start_object None) = ⊥
IsCounted (start_object (Some count)) = Unit {0}
IsCounted (key_event k) = Unit {0}
IsCounted end_object = Unit {0}

abbrev pub AreCounted : List NodeEvent → Type 0
AreCounted [] = Unit {0}
AreCounted (e ∷ es) = IsCounted e × AreCounted es

-- the event stands in a stream, whose openers tell their numbers, of some tree that is written as CBOR
abbrev pub StandsInCbor : NodeEvent → Type 0
StandsInCbor e = (n : Node) × (ds es : List NodeEvent) × IsCbor n × Streams n (ds ++ e ∷ es) [] × AreCounted (ds ++ e ∷ es)

-- a tree that is written as CBOR may have this event, and if it is an opener, it has its number
abbrev pub IsCborEvent : NodeEvent → Type 0
IsCborEvent null_event = Unit {0}
IsCborEvent (bool_event b) = Unit {0}
IsCborEvent (int_event z) = FitsSigned w64 z
IsCborEvent (number_event t) = ⊥
IsCborEvent (text_event t) = IsUtf8 t
IsCborEvent (bytes_event t) = AreBytes t
IsCborEvent (tag_event k) = k < 2 ^ 64
IsCborEvent (opaque_event b) = ⊥
IsCborEvent (start_list None) = ⊥
IsCborEvent (start_list (Some count)) = Unit {0}
IsCborEvent end_list = Unit {0}
IsCborEvent (start_object None) = ⊥
IsCborEvent (start_object (Some count)) = Unit {0}
IsCborEvent (key_event k) = IsUtf8 k
IsCborEvent end_object = Unit {0}

-- these are exactly the events that stand in such streams
abbrev pub CborEventsStand : Type 0
CborEventsStand = (e : NodeEvent) → IsCborEvent e ↔ StandsInCbor e

-- each event of such a stream is one
abbrev pub CborStreamsAreTaken : Type 0
CborStreamsAreTaken = (n : Node) (es : List NodeEvent) → IsCbor n → Streams n es [] → AreCounted es → TakesEach IsCborEvent es

-- for each stream of a tree whose openers tell their numbers the bytes are the tree's written item
abbrev pub WrittenEventsAreItem : Type 0
WrittenEventsAreItem = (n : Node) (es : List NodeEvent) → Streams n es [] → AreCounted es → written_item_events es ≡ written_item n

-- for a prefix of one they are a prefix of that item
abbrev pub WrittenEventsBeginItem : Type 0
WrittenEventsBeginItem =
    (n : Node) (es more : List NodeEvent) → Streams n (es ++ more) [] → AreCounted (es ++ more)
    → (rest : List ℕ) × (written_item n ≡ written_item_events es ++ rest)
