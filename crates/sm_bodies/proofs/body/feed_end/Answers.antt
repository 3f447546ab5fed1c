use Rattle.std.proofs.Common.{◌≡◌, sym, subst, rules}
use Rattle.sm_shapes.specs.TableView.{table_data}
use Rattle.sm_codec.specs.Codec.{codec_of}
use Rattle.sm_codec.specs.DecodingView.{IsFed}
use Rattle.sm_bodies.specs.steps.Reading.{EndsDecoder}
use Rattle.sm_bodies.proofs.BodiesFed.{may_feed, end_fed}
use Rattle.sm_bodies.proofs.body.feed_end.Goals as goal

pub finish-requires-clause-stands : goal.finish-requires-clause-stands
finish-requires-clause-stands g c =
    may_feed g.S.EventSource.source (codec_of (table_data c.args.table.now) (g.L.Leaves.convention c.args.leaves.now) g.P.Patterns.test)
    (g.P.Patterns.added c.args.patterns.now) c.args.reader.now c.args.decoder.now c.requires.shaped c.requires.stored c.requires.fed

pub returns-clause-ends : goal.returns-clause-ends
returns-clause-ends g c =
    let to = c.finish.new.to in
    let back : to.decoder.now ≡ c.decoder-1.given.0 = search rules in
    let codec = codec_of (table_data c.args.table.now) (g.L.Leaves.convention c.args.leaves.now) g.P.Patterns.test in
    subst (λ d. EndsDecoder g.S.EventSource.source codec (g.P.Patterns.added c.args.patterns.now) c.args.reader.now c.args.decoder.now d
    c.finish.result) back (
      sym c.finish.ensures.alike.5,
      end_fed g.S.EventSource.source
          (codec_of (table_data c.args.table.now) (g.L.Leaves.convention c.args.leaves.now) g.P.Patterns.test)
          (g.P.Patterns.added c.args.patterns.now) _ c.args.reader.now c.args.decoder.now to.decoder.now c.finish.result c.requires.shaped
          c.requires.stored c.finish.ensures.ends
          (λ es stands. subst (λ t. IsFed (codec_of (table_data t) (g.L.Leaves.convention c.args.leaves.now) g.P.Patterns.test)
          (g.P.Patterns.added c.args.patterns.now) to.decoder.now es) (sym c.finish.ensures.alike.0)
          (subst (λ l. IsFed (codec_of (table_data to.table.now) (g.L.Leaves.convention l) g.P.Patterns.test)
          (g.P.Patterns.added c.args.patterns.now) to.decoder.now es) (sym c.finish.ensures.alike.1)
          (subst (λ added. IsFed (codec_of (table_data to.table.now) (g.L.Leaves.convention to.leaves.now) g.P.Patterns.test) added
          to.decoder.now es) (sym c.finish.ensures.alike.2) stands))),
    )
