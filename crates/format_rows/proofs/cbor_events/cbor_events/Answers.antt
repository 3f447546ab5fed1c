use Rattle.std.proofs.Common.{[]}
use Rattle.format_rows.proofs.cbor_events.cbor_events.Goals as goal

pub feed_bytes-end-requires : goal.feed_bytes-end-requires
feed_bytes-end-requires c = ([], c.new-reader.ensures.stands)
