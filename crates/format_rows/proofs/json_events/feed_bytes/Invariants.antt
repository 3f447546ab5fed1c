use Rattle.std.proofs.Common.{◌≡◌, ℕ, List, None}
use Rattle.sm_json.specs.Stands.{JsonStands, refusal_of}
use Rattle.format_rows.proofs.json_events.feed_bytes.Given as goal

abbrev pub invariant-loop-byte : goal.invariant-loop-byte
invariant-loop-byte l = record {
  fresh : refusal_of l.reader ≡ None;
  stands : (bytes : List ℕ) × JsonStands l.reader bytes;
}
