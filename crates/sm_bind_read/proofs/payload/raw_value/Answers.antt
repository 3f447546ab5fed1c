use Rattle.std.proofs.Common.{true, sym, ap, subst, ◌∙◌}
use Rattle.std.proofs.lemmas.Bool.{true≢false}
use Rattle.sm_shapes.specs.Places.{kind_of, member_place}
use Rattle.sm_shapes.specs.TableData.{kind_at}
use Rattle.sm_shapes.specs.TableView.{table_data}
use Rattle.sm_codec.specs.Codec.{codec_of}
use Rattle.sm_codec.specs.Conventions.{json_convention}
use Rattle.sm_part_values.specs.Joins.{JoinsTo}
use Rattle.sm_part_values.specs.PartTexts.{in_target, raw_by, text_reading}
use Rattle.sm_bind_read.proofs.PayloadValues.{raw_text}
use Rattle.sm_bind_read.proofs.payload.raw_value.Goals as goal

pub returns-then-is_blob-clause-joins : goal.returns-then-is_blob-clause-joins
returns-then-is_blob-clause-joins g c =
    let t = table_data c.args.table.now in
    let codec = codec_of t (json_convention true) g.P.Patterns.test in
    let p = member_place c.args.member in
    subst (λ kind. JoinsTo (raw_by kind codec p c.args.bytes) c.blob_value.result)
    (sym (c.is_blob.ensures.0 c.if-is_blob.true) ∙ c.kind.ensures ∙ ap (kind_at t) c.target.ensures) c.blob_value.ensures.joins

pub returns-else-is_blob-clause-joins : goal.returns-else-is_blob-clause-joins
returns-else-is_blob-clause-joins g c =
    let t = table_data c.args.table.now in
    let codec = codec_of t (json_convention true) g.P.Patterns.test in
    let p = member_place c.args.member in
    subst (λ r. JoinsTo r c.text_value.result)
    (sym (raw_text (kind_of t p) codec p c.args.bytes
    (λ blob. true≢false (sym (c.is_blob.ensures.1 (c.kind.ensures ∙ ap (kind_at t) c.target.ensures ∙ blob)) ∙ c.if-is_blob.false))))
    (subst (λ u. JoinsTo (text_reading in_target codec p u) c.text_value.result) c.as_slice.ensures c.text_value.ensures.joins)
