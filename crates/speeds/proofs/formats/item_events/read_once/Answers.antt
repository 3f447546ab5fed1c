use Rattle.std.proofs.Common.{[]}
use Rattle.speeds.proofs.formats.item_events.read_once.Goals as goal

pub loop-piece-init : goal.loop-piece-init
loop-piece-init c = ([], c.new-reader.ensures.stands)

pub feed-requires-clause-stands : goal.feed-requires-clause-stands
feed-requires-clause-stands c fresh = let (bs, stands) = c.loop-piece.invariant in (bs, stands, λ es h. tt)
