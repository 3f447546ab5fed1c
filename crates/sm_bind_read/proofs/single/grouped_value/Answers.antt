use Rattle.std.proofs.Common.{[], ◌∷◌, map, true, sym, ap, subst, ◌∙◌}
use Rattle.std.specs.Prelude.{Err}
use Rattle.sm_shapes.specs.Places.{member_place}
use Rattle.sm_shapes.specs.TableView.{table_data}
use Rattle.sm_codec.specs.Codec.{codec_of}
use Rattle.sm_codec.specs.Conventions.{json_convention}
use Rattle.sm_codec.specs.Readings.{member_reading, when_closed}
use Rattle.sm_part_values.specs.Joins.{MemberJoins}
use Rattle.sm_part_values.specs.PartTexts.{in_target, text_child, text_reading}
use Rattle.sm_bind_read.specs.steps.Sources.{texts_in}
use Rattle.sm_bind_read.proofs.PartsPut.{empty_from, some_from}
use Rattle.sm_bind_read.proofs.TextsAlone.{repeated_more}
use Rattle.sm_bind_read.proofs.single.grouped_value.Goals as goal

pub returns-then-not-is_empty-clause-joins : goal.returns-then-not-is_empty-clause-joins
returns-then-not-is_empty-clause-joins g c =
    let t = table_data c.args.table.now in
    let child = text_child in_target (codec_of t (json_convention true) g.P.Patterns.test) in
    let group = c.in-Some.group.now in (
      [],
      ap (λ o. member_reading (when_closed t) c.args.member (map child (texts_in o))) c.in-Some.is
          ∙ repeated_more child (when_closed t) c.args.member group.first group.more.items
          (λ e. some_from c.as_slice.result.now (sym c.is_empty.ensures ∙ c.if-not-is_empty.true) (c.as_slice.ensures.value ∙ e))
          ∙ ap (λ f. Err (f ∷ [])) (sym c.fault_here.ensures),
    )

pub returns-clause-joins : goal.returns-clause-joins
returns-clause-joins g c =
    let t = table_data c.args.table.now in
    let codec = codec_of t (json_convention true) g.P.Patterns.test in
    let k = c.args.member in
    let group = c.in-Some.group.now in
    let alone = ap texts_in c.in-Some.is
    ∙ ap (λ us. group.first ∷ us)
    (sym c.as_slice.ensures.value ∙ empty_from c.as_slice.result.now (sym c.is_empty.ensures ∙ c.if-not-is_empty.false)) in
    subst (λ us. MemberJoins (member_reading (when_closed t) k (map (text_child in_target codec) us)) c.present.result) (sym alone)
    (subst (λ u. MemberJoins (member_reading (when_closed t) k (text_child in_target codec u ∷ [])) c.present.result) c.as_slice-2.ensures
    (c.present.ensures (text_reading in_target codec (member_place k) c.as_slice-2.result.now) c.text_value.ensures.joins))
