use Rattle.std.proofs.Common.{true, sym, ap, subst, ◌∙◌}
use Rattle.sm_shapes.specs.TableData.{kind_at}
use Rattle.sm_shapes.specs.TableView.{table_data}
use Rattle.sm_codec.specs.Codec.{codec_of}
use Rattle.sm_codec.specs.Conventions.{json_convention}
use Rattle.sm_codec.specs.Readings.{member_reading, when_closed}
use Rattle.sm_part_values.specs.Joins.{MemberJoins}
use Rattle.sm_part_values.specs.PartTexts.{in_target, is_list, texts_by}
use Rattle.sm_bind_read.specs.steps.Sources.{texts_in}
use Rattle.sm_bind_read.proofs.bound.query_value.Goals as goal

pub listed_value-requires-clause-list : goal.listed_value-requires-clause-list
listed_value-requires-clause-list g c =
    sym (c.kind.ensures ∙ ap (kind_at (table_data c.args.table.now)) c.target.ensures) ∙ c.is_list.ensures.list c.if-is_list.true

pub returns-then-is_list-clause-joins : goal.returns-then-is_list-clause-joins
returns-then-is_list-clause-joins g c =
    let t = table_data c.args.table.now in
    let codec = codec_of t (json_convention true) g.P.Patterns.test in
    subst (λ z. MemberJoins (member_reading (when_closed t) c.args.member (texts_by z in_target codec (texts_in c.args.found)))
    c.listed_value.result)
    (sym c.if-is_list.true ∙ c.is_list.ensures.value ∙ ap is_list (c.kind.ensures ∙ ap (kind_at t) c.target.ensures))
    c.listed_value.ensures.joins

pub returns-else-is_list-clause-joins : goal.returns-else-is_list-clause-joins
returns-else-is_list-clause-joins g c =
    let t = table_data c.args.table.now in
    let codec = codec_of t (json_convention true) g.P.Patterns.test in
    subst (λ z. MemberJoins (member_reading (when_closed t) c.args.member (texts_by z in_target codec (texts_in c.args.found)))
    c.grouped_value.result)
    (sym c.if-is_list.false ∙ c.is_list.ensures.value ∙ ap is_list (c.kind.ensures ∙ ap (kind_at t) c.target.ensures))
    c.grouped_value.ensures.joins
