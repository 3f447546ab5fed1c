use Rattle.std.proofs.Common.{ℕ, List}
use Rattle.sm_cbor.specs.Stands.{CborStands}
use Rattle.format_rows.proofs.cbor_events.feed_bytes.Given as goal

abbrev pub invariant-loop-byte : goal.invariant-loop-byte
invariant-loop-byte l = (bs : List ℕ) × CborStands l.reader bs
