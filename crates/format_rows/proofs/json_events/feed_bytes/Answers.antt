use Rattle.format_rows.proofs.json_events.feed_bytes.Goals as goal

pub flush-requires-clause-stands : goal.flush-requires-clause-stands
flush-requires-clause-stands c fresh = let (bytes, stands) = c.loop-byte.invariant.stands in (bytes, stands, λ es h. tt)
