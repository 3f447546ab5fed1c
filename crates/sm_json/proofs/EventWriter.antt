-- A writer that appended an event's text stands for the longer stream.
use Rattle.std.proofs.Common.{◌≡◌, ℕ, Bool, true, false, cond, List, [], ◌++◌, refl, sym, ap, ◌∙◌}
use Rattle.sm_tree.specs.Events.{NodeEvent}
use Rattle.sm_tree.specs.Streams.{TakesOn}
use Rattle.sm_json.specs.WrittenEvents.{comma_before, event_text, written_events}
use Rattle.sm_json.specs.WriterView.{has_comma, JsonWritten}
use Rattle.sm_json.specs.steps.Writing.{WritesEvent, KeepsWriter}
use Rattle.sm_json.specs.declared.writer.JsonWriter.{JsonWriter}
use Rattle.sm_json.proofs.EventTexts.{events_more, last_ends}

pub written_on : (w v : JsonWriter) (e : NodeEvent) → WritesEvent w v e → TakesOn (JsonWritten w) e (JsonWritten v)
written_on w v e writes es stands begins = record {
  bytes = writes.appended
      ∙ ap (λ s. s ++ (comma_before (has_comma w.before) e ++ event_text e)) stands.bytes
      ∙ ap (λ b. written_events es ++ (comma_before b e ++ event_text e)) stands.before
      ∙ sym (events_more es e);
  before = writes.next ∙ sym (last_ends es e);
}

-- one that is as before stands for what it stood for
pub written_still : (w v : JsonWriter) → KeepsWriter w v → (es : List NodeEvent) → JsonWritten w es → JsonWritten v es
written_still w v keeps es stands = record {
  bytes = keeps.same_bytes ∙ stands.bytes;
  before = ap has_comma keeps.same_next ∙ stands.before;
}

-- an end has no comma before it
pub no_comma : (b : Bool) (s : List ℕ) → cond b [] [] ++ s ≡ s
no_comma true s = refl
no_comma false s = refl
