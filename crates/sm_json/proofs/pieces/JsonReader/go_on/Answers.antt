use Rattle.std.proofs.Common.{arith, refl, sym, subst, Some, Err}
use Rattle.sm_json.specs.Stands.{JsonFeeds}
use Rattle.sm_tree.specs.Refusal.{moved_by}
use Rattle.sm_tree.proofs.Sources.{come_read}
use Rattle.sm_json.specs.Stands.{json_source}
use Rattle.sm_json.proofs.ReadPieces.{piece_placed, piece_fed, feed_within, piece_refused, takes_refused}
use Rattle.sm_json.proofs.pieces.JsonReader.go_on.Goals as goal

pub feed-requires-clause-sound : goal.feed-requires-clause-sound
feed-requires-clause-sound g c =
    let (bytes, stands, follows) = c.requires.stands in (come_read json_source c.args.self.now bytes c.requires.fresh stands.1).goes.sound

pub feed-requires-clause-placed : goal.feed-requires-clause-placed
feed-requires-clause-placed g c =
    let (bytes, stands, follows) = c.requires.stands in
    piece_placed c.args.self.now bytes _ _ (come_read json_source c.args.self.now bytes c.requires.fresh stands.1) follows c.requires.takes

pub returns-in-Ok-clause-feeds : goal.returns-in-Ok-clause-feeds
returns-in-Ok-clause-feeds g c =
    piece_fed c.args.self.now _ c.args.piece.now _ _ _ c.requires.fresh c.requires.fresh refl refl c.first_behind-self.ensures
    c.in-Ok.ensures.goes

pub returns-in-Ok-clause-takes : goal.returns-in-Ok-clause-takes
returns-in-Ok-clause-takes g c e before = c.in-Ok.ensures.goes.takes_all e

pub moved_by-moved-requires : goal.moved_by-moved-requires
moved_by-moved-requires g c = record {
  room = feed_within c.args.self.now.reader c.feed.new.self (g.E.EventSink.stands_for c.args.to.now)
      (g.E.EventSink.stands_for c.feed.new.to)
      (g.E.EventSink.takes c.feed.new.to) c.args.piece.now c.in-Err.refusal _ (omega arith) c.in-Err.ensures.goes;
}

pub returns-in-Err-clause-feeds : goal.returns-in-Err-clause-feeds
returns-in-Err-clause-feeds g c =
    subst (λ refusal. JsonFeeds (g.E.EventSink.stands_for c.args.to.now) c.args.self.now c.args.piece.now
    (g.E.EventSink.stands_for c.feed.new.to) (record c.args.self.now { reader = c.feed.new.self; refused = Some refusal }) (Err refusal))
    (sym c.moved_by-moved.ensures)
    (piece_refused c.args.self.now
    (record c.args.self.now { reader = c.feed.new.self; refused = Some (moved_by c.args.self.now.taken c.in-Err.refusal) }) c.feed.new.self
    c.args.piece.now (g.E.EventSink.stands_for c.args.to.now) (g.E.EventSink.stands_for c.feed.new.to) (g.E.EventSink.takes c.feed.new.to)
    c.in-Err.refusal c.requires.fresh refl refl c.in-Err.ensures.goes)

pub returns-in-Err-clause-takes : goal.returns-in-Err-clause-takes
returns-in-Err-clause-takes g c =
    rw c.moved_by-moved.ensures (takes_refused c.args.self.now.reader c.feed.new.self c.args.piece.now
    (g.E.EventSink.stands_for c.args.to.now)
    (g.E.EventSink.stands_for c.feed.new.to) (g.E.EventSink.takes c.args.to.now) (g.E.EventSink.takes c.feed.new.to)
    c.args.self.now.taken c.in-Err.refusal c.in-Err.ensures.goes)
