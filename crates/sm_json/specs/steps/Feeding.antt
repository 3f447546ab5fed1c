-- What stands between a reader and the sink that it hands events to, by the reader's state. The contracts of the reader's methods
-- cite it.
use Rattle.std.specs.Prelude.{ℕ, List, ◌++◌}
use Rattle.sm_tree.specs.Events.{NodeEvent}
use Rattle.sm_tree.specs.Streams.{StandsFor, BeginsStream}
use Rattle.sm_tree.specs.Timing.{TimedEvent, untimed}
use Rattle.sm_tree.specs.Limits.{most_levels}
use Rattle.sm_json.specs.steps.Rest.{JsonState, JsonRest}

-- the sink stands for some list which, with the events of whatever may still come at this state, begins a stream
abbrev pub IsPlaced : JsonState → StandsFor → Type 0
IsPlaced x S =
    (es : List NodeEvent) × S es × ((s : List ℕ) (ts : List TimedEvent) → JsonRest most_levels x s ts → BeginsStream (es ++ untimed ts))
