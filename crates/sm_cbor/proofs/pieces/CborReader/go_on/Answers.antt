use Rattle.std.proofs.Common.{Err, Some, refl, sym, ap, subst, arith, ◌-◌, ◌^◌}
use Rattle.sm_cbor.specs.Stands.{CborFeeds}
use Rattle.sm_cbor.specs.declared.pieces.CborReader.{CborReader}
use Rattle.sm_cbor.proofs.FeedSteps.{takes_moved}
use Rattle.sm_cbor.proofs.Feeding.{fed_sound, fed_reached, fed, fed_refused, refusal_fits}
use Rattle.sm_cbor.proofs.pieces.CborReader.go_on.Goals as goal

pub feed-requires-clause-sound : goal.feed-requires-clause-sound
feed-requires-clause-sound g c =
    let (bytes, stands, follows) = c.requires.stands in fed_sound c.args.self.now bytes c.requires.fresh stands

pub feed-requires-clause-reached : goal.feed-requires-clause-reached
feed-requires-clause-reached g c =
    let (bytes, stands, follows) = c.requires.stands in fed_reached c.args.self.now (g.E.EventSink.stands_for c.args.to.now) bytes
    c.requires.fresh stands follows

pub returns-in-Ok-clause-feeds : goal.returns-in-Ok-clause-feeds
returns-in-Ok-clause-feeds g c =
    fed (g.E.EventSink.stands_for c.args.to.now) (g.E.EventSink.stands_for c.feed.new.to) c.args.self.now _ c.args.piece.now
    c.requires.fresh c.requires.fresh refl c.in-Ok.ensures.goes

pub moved_by-moved-requires : goal.moved_by-moved-requires
moved_by-moved-requires g c = record {
  room = refusal_fits (g.E.EventSink.stands_for c.args.to.now) (g.E.EventSink.stands_for c.feed.new.to) c.args.self.now.reader
      c.feed.new.self c.args.piece.now c.in-Err.refusal (2 ^ 64 - c.args.self.now.taken)
      (omega arith) c.in-Err.ensures.goes;
}

pub returns-in-Err-clause-feeds : goal.returns-in-Err-clause-feeds
returns-in-Err-clause-feeds g c =
    let behind : CborReader = record c.args.self.now { reader = c.feed.new.self; refused = Some c.moved_by-moved.result } in
    subst (λ y. CborFeeds (g.E.EventSink.stands_for c.args.to.now) c.args.self.now c.args.piece.now (g.E.EventSink.stands_for
    c.feed.new.to) behind (Err y)) (sym c.moved_by-moved.ensures)
    (fed_refused (g.E.EventSink.stands_for c.args.to.now) (g.E.EventSink.stands_for c.feed.new.to) c.args.self.now behind c.feed.new.self
    c.args.piece.now c.in-Err.refusal c.requires.fresh
    (ap Some c.moved_by-moved.ensures) c.in-Err.ensures.goes)

pub returns-in-Err-clause-takes : goal.returns-in-Err-clause-takes
returns-in-Err-clause-takes g c =
    rw c.moved_by-moved.ensures (takes_moved (g.E.EventSink.takes c.args.to.now) (g.E.EventSink.takes c.args.to.now) (g.E.EventSink.takes
    c.feed.new.to)
    c.args.self.now.taken c.in-Err.refusal (λ e h. h) c.in-Err.ensures.takes)
