use Rattle.std.proofs.Common.{true, subst}
use Rattle.std.specs.Prelude.{Err}
use Rattle.sm_json.specs.JsonText.{json_syntax}
use Rattle.sm_shapes.specs.TableView.{table_data}
use Rattle.sm_codec.specs.Codec.{codec_of}
use Rattle.sm_codec.specs.CodecLaws.{IsCodec}
use Rattle.sm_codec.specs.Conventions.{json_convention}
use Rattle.sm_codec.specs.declared.frames.Outcome.TheVariants.{Bad, Good}
use Rattle.sm_codec.proofs.JsonLaws.{json_laws}
use Rattle.sm_bodies.specs.Bodies.{DecodesAs}
use Rattle.sm_rest_read.proofs.ContentsGiven.{tree_given}
use Rattle.sm_rest_read.proofs.contents.fed_content.Goals as goal

pub returns-in-Ok-clause-content : goal.returns-in-Ok-clause-content
returns-in-Ok-clause-content g c = λ shape bytes inside come.
    let codec = codec_of (table_data c.args.documents.now) (json_convention true) g.P.Patterns.test in
    let laws : IsCodec codec = record { convention = json_laws true; table = c.requires.shaped; defaults = c.requires.pass } in
    tree_given codec c.args.reader c.args.decoder shape bytes c.args.document c.is_null-absent.result (Good c.in-Ok.value) c.tree_body.result
    laws inside c.requires.memory c.is_null-absent.ensures c.tree_body.ensures come (c.in-Ok.ensures.value shape bytes come)

pub returns-in-Err-Fault-clause-content : goal.returns-in-Err-Fault-clause-content
returns-in-Err-Fault-clause-content g c = λ shape bytes inside come.
    let codec = codec_of (table_data c.args.documents.now) (json_convention true) g.P.Patterns.test in
    let laws : IsCodec codec = record { convention = json_laws true; table = c.requires.shaped; defaults = c.requires.pass } in
    tree_given codec c.args.reader c.args.decoder shape bytes c.args.document c.is_null-absent.result (Bad c.in-Err-Fault.fault)
    c.tree_body-in-Err-Fault.result laws inside c.requires.memory c.is_null-absent.ensures c.tree_body-in-Err-Fault.ensures come
    (subst (λ e. DecodesAs json_syntax codec shape bytes (Err e)) c.in-Err-Fault.field-0-is (c.in-Err-Fault.ensures.value shape bytes come))

pub returns-in-Err-Syntax-clause-content : goal.returns-in-Err-Syntax-clause-content
returns-in-Err-Syntax-clause-content g c = λ shape bytes inside come.
    let codec = codec_of (table_data c.args.documents.now) (json_convention true) g.P.Patterns.test in
    subst (λ e. DecodesAs json_syntax codec shape bytes (Err e)) c.in-Err-Syntax.field-0-is (c.in-Err-Syntax.ensures.value shape bytes come)
