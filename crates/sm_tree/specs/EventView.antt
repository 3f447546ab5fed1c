-- What an event of the code stands for. Every contract that speaks of one cites it.
use Rattle.sm_tree.specs.Events.{NodeEvent, null_event, bool_event, int_event, number_event, text_event, bytes_event, tag_event}
use Rattle.sm_tree.specs.Events.{opaque_event, start_list, end_list, start_object, key_event, end_object}
use Rattle.sm_tree.specs.declared.event.Event.{Event}
use Rattle.sm_tree.specs.declared.event.Event.TheVariants.{Null, Bool, Int, Number, Text, Bytes, Tag, Opaque, StartList, EndList}
use Rattle.sm_tree.specs.declared.event.Event.TheVariants.{StartObject, Key, EndObject}

abbrev pub event_of : Event → NodeEvent
event_of Null = null_event
event_of (Bool b) = bool_event b
event_of (Int z) = int_event z
event_of (Number t) = number_event t
event_of (Text t) = text_event t
event_of (Bytes t) = bytes_event t
event_of (Tag k) = tag_event k
event_of (Opaque b) = opaque_event b
event_of (StartList n) = start_list n
event_of EndList = end_list
event_of (StartObject n) = start_object n
event_of (Key t) = key_event t
event_of EndObject = end_object
