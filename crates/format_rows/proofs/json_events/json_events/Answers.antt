use Rattle.std.proofs.Common.{[]}
use Rattle.format_rows.proofs.json_events.json_events.Goals as goal

pub feed_bytes-end-requires-clause-stands : goal.feed_bytes-end-requires-clause-stands
feed_bytes-end-requires-clause-stands c = ([], c.new-reader.ensures.stands)
