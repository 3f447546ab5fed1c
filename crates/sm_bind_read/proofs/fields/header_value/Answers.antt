use Rattle.std.proofs.Common.{true, false, sym, ap, subst, ◌∙◌}
use Rattle.sm_shapes.specs.TableData.{kind_at}
use Rattle.sm_shapes.specs.TableView.{table_data}
use Rattle.sm_codec.specs.Codec.{codec_of}
use Rattle.sm_codec.specs.Conventions.{json_convention}
use Rattle.sm_codec.specs.Readings.{member_reading, when_closed}
use Rattle.sm_part_values.specs.Joins.{MemberJoins}
use Rattle.sm_part_values.specs.PartTexts.{fields_by, is_list}
use Rattle.sm_http.specs.FieldValues.{values_named}
use Rattle.sm_parts.specs.HeaderLists.{filled}
use Rattle.sm_bind_read.proofs.fields.header_value.Goals as goal

pub joined_value-requires-clause-list : goal.joined_value-requires-clause-list
joined_value-requires-clause-list g c =
    sym (c.kind.ensures ∙ ap (kind_at (table_data c.args.table.now)) c.target.ensures) ∙ c.is_list.ensures.list c.if-is_list.true

pub returns-then-is_list-clause-joins : goal.returns-then-is_list-clause-joins
returns-then-is_list-clause-joins g c =
    let t = table_data c.args.table.now in
    let codec = codec_of t (json_convention true) g.P.Patterns.test in
    let k = c.args.member in
    subst (λ z. MemberJoins (member_reading (when_closed t) k (fields_by z codec k (filled (values_named c.args.name.now c.args.fields.now))))
    c.joined_value.result)
    (sym c.if-is_list.true ∙ c.is_list.ensures.value ∙ ap is_list (c.kind.ensures ∙ ap (kind_at t) c.target.ensures))
    (subst (λ us. MemberJoins (member_reading (when_closed t) k (fields_by true codec k us)) c.joined_value.result)
    (c.as_slice-listed.ensures.value ∙ c.in-Ok.ensures) c.joined_value.ensures.joins)

pub returns-in-Ok-clause-joins : goal.returns-in-Ok-clause-joins
returns-in-Ok-clause-joins g c =
    let t = table_data c.args.table.now in
    let codec = codec_of t (json_convention true) g.P.Patterns.test in
    let k = c.args.member in
    subst (λ z. MemberJoins (member_reading (when_closed t) k (fields_by z codec k (filled (values_named c.args.name.now c.args.fields.now))))
    c.alone_value.result)
    (sym c.if-is_list.false ∙ c.is_list.ensures.value ∙ ap is_list (c.kind.ensures ∙ ap (kind_at t) c.target.ensures))
    (subst (λ us. MemberJoins (member_reading (when_closed t) k (fields_by false codec k us)) c.alone_value.result)
    (c.as_slice-listed.ensures.value ∙ c.in-Ok.ensures) c.alone_value.ensures.joins)
