-- What one event does to a writer, for proofs alone.
use Rattle.std.specs.Prelude.{◌≡◌, ℕ, Bool, cond, List, [], ◌∷◌, ◌++◌}
use Rattle.sm_bytes.specs.Ascii.{comma}
use Rattle.sm_tree.specs.Events.{NodeEvent}
use Rattle.sm_json.specs.WrittenEvents.{comma_before, ends_value, event_text}
use Rattle.sm_json.specs.WriterView.{has_comma}
use Rattle.sm_json.specs.declared.writer.Before.{Before}
use Rattle.sm_json.specs.declared.writer.JsonWriter.{JsonWriter}

-- what stands before an entry or a pair that begins now
abbrev pub comma_of : Before → List ℕ
comma_of before = cond (has_comma before) (comma ∷ []) []

-- these bytes were appended, and a value has ended with them or hasn't
pub record Writes (old new : JsonWriter) (bytes : List ℕ) (ended : Bool) : Type 0 where
  pub appended : new.bytes.items ≡ old.bytes.items ++ bytes
  pub next : has_comma new.before ≡ ended

-- the bytes are as before, and so is what stands before the next ones
pub record KeepsWriter (old new : JsonWriter) : Type 0 where
  pub same_bytes : new.bytes.items ≡ old.bytes.items
  pub same_next : new.before ≡ old.before

-- the event's text was appended, and what stands before it
abbrev pub WritesEvent : JsonWriter → JsonWriter → NodeEvent → Type 0
WritesEvent old new e = Writes old new (comma_before (has_comma old.before) e ++ event_text e) (ends_value e)
