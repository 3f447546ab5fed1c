-- What a writer of events stands for. Every contract that speaks of one cites it.
use Rattle.std.specs.Prelude.{◌≡◌, Bool, true, false, List}
use Rattle.sm_tree.specs.Events.{NodeEvent}
use Rattle.sm_json.specs.WrittenEvents.{value_ended, written_events}
use Rattle.sm_json.specs.declared.writer.Before.{Before}
use Rattle.sm_json.specs.declared.writer.Before.TheVariants.{Nothing, Comma}
use Rattle.sm_json.specs.declared.writer.JsonWriter.{JsonWriter}

-- an entry or a pair that begins now has a comma before it
abbrev pub has_comma : Before → Bool
has_comma Nothing = false
has_comma Comma = true

-- the writer's bytes are those that are written for these events, and it knows whether a value has ended
pub record JsonWritten (w : JsonWriter) (es : List NodeEvent) : Type 0 where
  pub bytes : w.bytes.items ≡ written_events es
  pub before : has_comma w.before ≡ value_ended es
