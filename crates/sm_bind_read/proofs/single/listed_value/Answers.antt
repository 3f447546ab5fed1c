use Rattle.std.proofs.Common.{map, true, sym, ap, subst, ◌∙◌}
use Rattle.sm_shapes.specs.Places.{member_place}
use Rattle.sm_shapes.specs.TableView.{table_data}
use Rattle.sm_codec.specs.Codec.{codec_of}
use Rattle.sm_codec.specs.Conventions.{json_convention}
use Rattle.sm_codec.specs.Readings.{list_reading, member_reading, present_reading, when_closed}
use Rattle.sm_groups.specs.Groups.{group_view}
use Rattle.sm_part_values.specs.Joins.{MemberJoins}
use Rattle.sm_part_values.specs.PartTexts.{entry_child, in_target, list_or_none, text_child}
use Rattle.sm_bind_read.specs.steps.Sources.{texts_in}
use Rattle.sm_bind_read.proofs.TextsAlone.{as_entries}
use Rattle.sm_bind_read.proofs.single.listed_value.Goals as goal

pub returns-in-Ok-clause-joins : goal.returns-in-Ok-clause-joins
returns-in-Ok-clause-joins g c =
    let t = table_data c.args.table.now in
    let codec = codec_of t (json_convention true) g.P.Patterns.test in
    let k = c.args.member in
    let texts = (group_view c.in-Some.group.now).1 in
    subst (λ o. MemberJoins (member_reading (when_closed t) k (list_or_none codec (map (text_child in_target codec) (texts_in o)))) c.present.result)
    (sym c.in-Some.is)
    (subst (λ cs. MemberJoins (present_reading (list_reading codec (member_place k) cs)) c.present.result)
    (ap (map (entry_child in_target codec)) (c.as_slice.ensures.value ∙ c.in-Ok.ensures) ∙ as_entries in_target codec texts)
    (c.present.ensures (list_reading codec (member_place k) (map (entry_child in_target codec) c.as_slice.result.now)) c.entries_value.ensures.joins))
