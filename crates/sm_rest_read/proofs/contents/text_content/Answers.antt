use Rattle.std.proofs.Common.{[], refl, true}
use Rattle.sm_shapes.specs.TableView.{table_data}
use Rattle.sm_codec.specs.Codec.{codec_of}
use Rattle.sm_codec.specs.Conventions.{json_convention}
use Rattle.sm_rest_read.proofs.contents.text_content.Goals as goal

pub piece-requires-clause-fed : goal.piece-requires-clause-fed
piece-requires-clause-fed g c =
    (c.args.shape, [], c.in-Ok.ensures.fed (codec_of (table_data c.args.documents.now) (json_convention true) g.P.Patterns.test) refl)

pub fed_content-requires-clause-fed : goal.fed_content-requires-clause-fed
fed_content-requires-clause-fed g c =
    let codec = codec_of (table_data c.args.documents.now) (json_convention true) g.P.Patterns.test in
    (c.args.shape, c.args.bytes.now, c.in-Ok-piece.ensures.fed c.args.shape [] (c.in-Ok.ensures.fed codec refl))

pub returns-in-Ok-piece-clause-content : goal.returns-in-Ok-piece-clause-content
returns-in-Ok-piece-clause-content g c =
    let codec = codec_of (table_data c.args.documents.now) (json_convention true) g.P.Patterns.test in
    c.fed_content.ensures.content c.args.shape c.args.bytes.now c.requires.number
    (c.in-Ok-piece.ensures.fed c.args.shape [] (c.in-Ok.ensures.fed codec refl))
