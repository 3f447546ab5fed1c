-- What a writer of events stands for. Every contract that speaks of one cites it.
use Rattle.std.specs.Prelude.{◌≡◌, List}
use Rattle.sm_tree.specs.Events.{NodeEvent}
use Rattle.sm_cbor.specs.WrittenEvents.{written_item_events}
use Rattle.sm_cbor.specs.declared.writer.CborWriter.{CborWriter}

-- the writer's bytes are those that are written for these events
abbrev pub CborWritten : CborWriter → List NodeEvent → Type 0
CborWritten w es = w.bytes.items ≡ written_item_events es
