-- What shows events stands for any, so for those of the bytes that have come.
use Rattle.format_rows.proofs.Fed.{taken_fresh, taken_stands}
use Rattle.format_rows.proofs.json_events.feed_byte.Goals as goal

pub feed-requires-clause-stands : goal.feed-requires-clause-stands
feed-requires-clause-stands c fresh = let (bs, stands) = c.requires.stands in (bs, stands, λ es h. tt)

pub returns-clause-fresh : goal.returns-clause-fresh
returns-clause-fresh c = taken_fresh c.args.reader.now c.feed.new.self c.feed.result _ _ _ (c.feed.ensures.feeds c.requires.fresh)

pub returns-clause-stands : goal.returns-clause-stands
returns-clause-stands c = taken_stands c.args.reader.now c.feed.new.self c.feed.result _ _ _
    (c.feed.ensures.feeds c.requires.fresh) c.requires.stands
