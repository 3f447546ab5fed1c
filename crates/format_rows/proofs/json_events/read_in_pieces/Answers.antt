-- The builder stands for what the pieces so far complete, and at the end for the events of one whole tree.
use Rattle.std.proofs.Common.{sym, ap, ◌∙◌, []}
use Rattle.sm_tree.specs.BuilderView.{building_of}
use Rattle.sm_tree.specs.Streams.{unnumbered}
use Rattle.sm_json.proofs.Completed.{none_yet}
use Rattle.format_rows.proofs.Followed.{followed_closed}
use Rattle.format_rows.proofs.json_events.read_in_pieces.Goals as goal

pub loop-at-init : goal.loop-at-init
loop-at-init c = record {
  fresh = c.new-reader.ensures.fresh;
  stands = ([], c.new-reader.ensures.stands, λ es done. ap unnumbered (none_yet es done) ∙ sym c.new-builder.ensures.taken);
}

pub feed-requires-clause-stands : goal.feed-requires-clause-stands
feed-requires-clause-stands c fresh = c.loop-at.invariant.stands

pub loop-at-preserved : goal.loop-at-preserved
loop-at-preserved c =
    let (bytes, stands, follows) = c.loop-at.invariant.stands in
    let (fresh, longer) = c.in_ok-feed.ensures.feeds c.loop-at.invariant.fresh in
    let (still, on) = longer bytes stands in record { fresh = fresh; stands = (_, still, on follows) }

pub flush-requires-clause-stands : goal.flush-requires-clause-stands
flush-requires-clause-stands c fresh = c.loop-at.invariant.stands

pub finish-requires-clause-closed : goal.finish-requires-clause-closed
finish-requires-clause-closed c =
    let (bytes, stands, follows) = c.loop-at.invariant.stands in
    let (fresh, flushed) = c.in_ok-flush.ensures.flushes c.loop-at.invariant.fresh in
    let (come, all) = flushed bytes stands in
    let (n, es, read, complete, stream) = c.in_ok-end.ensures.ends bytes come.1 in
    (followed_closed n es (building_of c.flush.new.to) stream ((all follows).0 es complete)).0

pub finish-requires-clause-begun : goal.finish-requires-clause-begun
finish-requires-clause-begun c =
    let (bytes, stands, follows) = c.loop-at.invariant.stands in
    let (fresh, flushed) = c.in_ok-flush.ensures.flushes c.loop-at.invariant.fresh in
    let (come, all) = flushed bytes stands in
    let (n, es, read, complete, stream) = c.in_ok-end.ensures.ends bytes come.1 in
    (followed_closed n es (building_of c.flush.new.to) stream ((all follows).0 es complete)).1
