use Rattle.sm_tree.specs.View.{node_of}
use Rattle.sm_shapes.specs.TableView.{table_data}
use Rattle.sm_codec.specs.Codec.{codec_of}
use Rattle.sm_codec.specs.DecodingView.{decoding_of}
use Rattle.sm_codec.proofs.WalkedWhole.{start_ready, walked_whole, walked_finishes, finished_decodes}
use Rattle.sm_codec.proofs.decoding.decode.Goals as goal

pub walk-requires-clause-ready : goal.walk-requires-clause-ready
walk-requires-clause-ready g c =
    let k = codec_of (table_data c.args.table.now) (g.L.Leaves.convention c.args.leaves.now) g.P.Patterns.test in
    start_ready k c.args.shape (decoding_of c.new-decoder.result) c.new-decoder.ensures c.requires.shape

pub finish-requires : goal.finish-requires
finish-requires g c =
    let k = codec_of (table_data c.args.table.now) (g.L.Leaves.convention c.args.leaves.now) g.P.Patterns.test in
    record {
      whole = walked_whole k (node_of c.args.tree.now) c.args.shape (decoding_of c.new-decoder.result)
          (decoding_of c.walk.new.self) c.laws.ensures c.new-decoder.ensures
          c.requires.shape c.walk.ensures.shape c.in-Ok.ensures.taken;
    }

pub returns-in-Ok-clause-decoded : goal.returns-in-Ok-clause-decoded
returns-in-Ok-clause-decoded g c =
    let k = codec_of (table_data c.args.table.now) (g.L.Leaves.convention c.args.leaves.now) g.P.Patterns.test in
    let n = node_of c.args.tree.now in
    finished_decodes k c.args.shape n c.finish.result
    (walked_finishes k n c.args.shape (decoding_of c.new-decoder.result)
    (decoding_of c.walk.new.self) c.laws.ensures c.new-decoder.ensures c.requires.shape
    c.walk.ensures.shape c.in-Ok.ensures.taken c.finish.result
    (record { convention = c.laws.ensures; table = c.requires.shaped; defaults = c.requires.built.defaults }) c.finish.ensures)
