use Rattle.format_rows.proofs.cbor_events.feed_byte.Goals as goal

pub feed-requires-clause-stands : goal.feed-requires-clause-stands
feed-requires-clause-stands c fresh = let (bs, stands) = c.requires in (bs, stands, λ es h. tt)
