use Rattle.std.proofs.Common.{[], ◌∷◌, map, true, sym, ap, subst, ◌∙◌, arith}
use Rattle.std.specs.Prelude.{Err}
use Rattle.sm_shapes.specs.Places.{member_place}
use Rattle.sm_shapes.specs.TableView.{table_data}
use Rattle.sm_codec.specs.Codec.{codec_of}
use Rattle.sm_codec.specs.Conventions.{json_convention}
use Rattle.sm_codec.specs.Readings.{member_reading, when_closed}
use Rattle.sm_part_values.specs.Joins.{MemberJoins}
use Rattle.sm_part_values.specs.PartTexts.{in_field, text_child, text_reading}
use Rattle.sm_bind_read.proofs.TextsAlone.{one_text, repeated}
use Rattle.sm_bind_read.proofs.fields.alone_value.Goals as goal

pub returns-in-len1-clause-joins : goal.returns-in-len1-clause-joins
returns-in-len1-clause-joins g c =
    let t = table_data c.args.table.now in
    let codec = codec_of t (json_convention true) g.P.Patterns.test in
    let k = c.args.member in
    let one = c.text-item.result in
    subst (λ us. MemberJoins (member_reading (when_closed t) k (map (text_child in_field codec) us)) c.present.result)
    (sym (one_text c.args.texts.now one (omega (arith, c.in-len1.len_at_least)) (omega (arith, c.in-len1.len_below)) c.text-item.is))
    (subst (λ u. MemberJoins (member_reading (when_closed t) k (text_child in_field codec u ∷ [])) c.present.result) c.as_slice.ensures
    (c.present.ensures (text_reading in_field codec (member_place k) c.as_slice.result.now) c.text_value.ensures.joins))

pub returns-in-len2-up-clause-joins : goal.returns-in-len2-up-clause-joins
returns-in-len2-up-clause-joins g c =
    let t = table_data c.args.table.now in
    let codec = codec_of t (json_convention true) g.P.Patterns.test in (
      [],
      repeated (text_child in_field codec) (when_closed t) c.args.member c.args.texts.now (omega (arith, c.in-len2-up.len_at_least))
          ∙ ap (λ f. Err (f ∷ [])) (sym c.fault_here.ensures),
    )
