use Rattle.std.proofs.Common.{◌≡◌, sym, subst, rules}
use Rattle.sm_shapes.specs.TableView.{table_data}
use Rattle.sm_codec.specs.Codec.{codec_of}
use Rattle.sm_codec.specs.DecodingView.{decoding_of}
use Rattle.sm_codec.specs.Kept.{Kept}
use Rattle.sm_bodies.specs.steps.Reading.{FeedsDecoder}
use Rattle.sm_bodies.proofs.BodiesFed.{may_feed, memory_told, piece_fed}
use Rattle.sm_bodies.proofs.body.feed_piece.Goals as goal

pub feed-requires-clause-stands : goal.feed-requires-clause-stands
feed-requires-clause-stands g c =
    may_feed g.S.EventSource.source (codec_of (table_data c.args.table.now) (g.L.Leaves.convention c.args.leaves.now) g.P.Patterns.test)
    (g.P.Patterns.added c.args.patterns.now) c.args.reader.now c.args.decoder.now c.requires.shaped c.requires.stored c.requires.fed

pub returns-clause-fed : goal.returns-clause-fed
returns-clause-fed g c =
    let to = c.feed.new.to in
    let back : to.decoder.now ≡ c.decoder-1.given.0 = search rules in
    let codec = codec_of (table_data c.args.table.now) (g.L.Leaves.convention c.args.leaves.now) g.P.Patterns.test in
    subst (λ d. FeedsDecoder g.S.EventSource.source codec c.args.reader.now c.args.decoder.now c.args.piece.now c.feed.new.self d
    c.feed.result) back
    (piece_fed g.S.EventSource.source (codec_of (table_data c.args.table.now) (g.L.Leaves.convention c.args.leaves.now) g.P.Patterns.test)
    (g.P.Patterns.added c.args.patterns.now) _ c.args.reader.now c.feed.new.self c.args.decoder.now to.decoder.now c.args.piece.now
    c.feed.result _ c.requires.shaped c.requires.stored c.feed.ensures.feeds c.feed.ensures.again (λ same es stands. rw same stands)
    (λ es stands. subst (λ t. Kept (codec_of (table_data t) (g.L.Leaves.convention c.args.leaves.now) g.P.Patterns.test) es
    (decoding_of to.decoder.now)) (sym c.feed.ensures.alike.0)
    (subst (λ l. Kept (codec_of (table_data to.table.now) (g.L.Leaves.convention l) g.P.Patterns.test) es (decoding_of to.decoder.now))
    (sym c.feed.ensures.alike.1) stands.0))
    c.feed.ensures.alike.5)

pub returns-clause-memory : goal.returns-clause-memory
returns-clause-memory g c =
    memory_told g.S.EventSource.source _ _ c.args.reader.now c.feed.new.self c.args.piece.now c.feed.result _ c.feed.ensures.feeds
    c.feed.ensures.again
