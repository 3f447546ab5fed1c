use Rattle.std.proofs.Common.{◌∙◌}
use Rattle.sm_shapes.specs.TableView.{table_data}
use Rattle.sm_codec.specs.Codec.{codec_of}
use Rattle.sm_bodies.proofs.BodiesRead.{read_whole, read_gives}
use Rattle.sm_bodies.proofs.body.Body.finish.Goals as goal

pub answered-requires : goal.answered-requires
answered-requires g c =
    let (shape, bytes, fed) = c.requires.fed in
    record {
      whole = read_whole g.S.EventSource.source.syntax
          (codec_of (table_data c.args.table.now) (g.L.Leaves.convention c.args.leaves.now) g.P.Patterns.test)
          (g.P.Patterns.added c.args.patterns.now) c.feed_end-read.new.decoder bytes c.feed_end-read.result
          (c.feed_end-read.ensures.ends.1 shape bytes fed);
    }

pub returns-clause-value : goal.returns-clause-value
returns-clause-value g c shape bytes fed =
    read_gives g.S.EventSource.source.syntax
    (codec_of (table_data c.args.table.now) (g.L.Leaves.convention c.args.leaves.now) g.P.Patterns.test)
    (g.P.Patterns.added c.args.patterns.now) c.feed_end-read.new.decoder shape bytes c.feed_end-read.result c.answered.result
    (c.feed_end-read.ensures.ends.1 shape bytes fed)
    (record { convention = c.laws.ensures; table = c.requires.shaped; defaults = c.requires.pass })
    (c.feed_end-read.ensures.ends.0 ∙ fed.0) c.answered.ensures
