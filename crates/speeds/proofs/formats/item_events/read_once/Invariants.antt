use Rattle.std.proofs.Common.{ℕ, List}
use Rattle.sm_cbor.specs.Stands.{CborStands}
use Rattle.speeds.proofs.formats.item_events.read_once.Given as goal

abbrev pub invariant-loop-piece : goal.invariant-loop-piece
invariant-loop-piece l = (bs : List ℕ) × CborStands l.reader bs
