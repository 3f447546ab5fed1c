use Rattle.std.proofs.Common.{◌<◌, sym, ap, subst}
use Rattle.sm_shapes.specs.TableData.{shape_count}
use Rattle.sm_shapes.specs.TableView.{table_data}
use Rattle.sm_codec.specs.Decoding as decoding
use Rattle.sm_codec.specs.DecodingView.{decoding_of}
use Rattle.sm_codec.proofs.KeptOn.{starts_empty}
use Rattle.sm_codec.proofs.decoder.Decoder.start.Goals as goal

pub returns-clause-empty : goal.returns-clause-empty
returns-clause-empty c =
    let t = table_data c.args.table.now in
    let InTable : decoding.Decoding → Type 0 = λ x. x.shape < shape_count t in
    starts_empty t (decoding_of c.new.result) (subst InTable (sym c.new.ensures) c.requires.number) (ap (λ x. x.frames) c.new.ensures)
    (ap (λ x. x.result) c.new.ensures)
