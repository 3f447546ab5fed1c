use Rattle.std.proofs.Common.{true, map, sym, ap, subst, ◌∙◌}
use Rattle.std.specs.List.{join_with_byte}
use Rattle.sm_bytes.specs.Ascii.{comma}
use Rattle.sm_shapes.specs.Places.{member_place}
use Rattle.sm_shapes.specs.TableView.{table_data}
use Rattle.sm_codec.specs.Codec.{codec_of}
use Rattle.sm_codec.specs.Conventions.{json_convention}
use Rattle.sm_codec.specs.Readings.{list_reading, member_reading, when_closed}
use Rattle.sm_parts.specs.HeaderLists.{entries_of}
use Rattle.sm_part_values.specs.Joins.{JoinsTo, MemberJoins}
use Rattle.sm_part_values.specs.PartTexts.{entry_child, field_cut, fields_by, in_field}
use Rattle.sm_bind_read.proofs.ListsStand.{fields_stand}
use Rattle.sm_bind_read.proofs.PartsPut.{empty_from, some_from}
use Rattle.sm_bind_read.proofs.fields.joined_value.Goals as goal

pub returns-then-is_empty-clause-joins : goal.returns-then-is_empty-clause-joins
returns-then-is_empty-clause-joins g c =
    let t = table_data c.args.table.now in
    let codec = codec_of t (json_convention true) g.P.Patterns.test in
    subst (λ us. MemberJoins (member_reading (when_closed t) c.args.member (fields_by true codec c.args.member us)) c.absent_value.result)
    (sym (empty_from c.args.texts.now (sym c.is_empty.ensures ∙ c.if-is_empty.true))) c.absent_value.ensures

pub returns-in-Ok-clause-joins : goal.returns-in-Ok-clause-joins
returns-in-Ok-clause-joins g c =
    let t = table_data c.args.table.now in
    let codec = codec_of t (json_convention true) g.P.Patterns.test in
    let p = member_place c.args.member in
    let texts = c.args.texts.now in
    let listed = c.as_slice.ensures.value ∙ c.in-Ok.ensures ∙ ap (λ cut. entries_of cut (join_with_byte comma texts)) c.cut_at.ensures in
    subst (λ r. MemberJoins r c.present.result)
    (fields_stand (when_closed t) c.args.member codec texts (some_from texts (sym c.is_empty.ensures ∙ c.if-is_empty.false)))
    (c.present.ensures (list_reading codec p (map (entry_child in_field codec) (entries_of (field_cut codec p) (join_with_byte comma texts))))
    (subst (λ es. JoinsTo (list_reading codec p (map (entry_child in_field codec) es)) c.entries_value.result) listed
    c.entries_value.ensures.joins))
