use Rattle.std.proofs.Common.{◌≡◌, [], true, sym, subst, ◌∙◌}
use Rattle.sm_shapes.specs.Places.{member_place}
use Rattle.sm_shapes.specs.TableView.{table_data}
use Rattle.sm_codec.specs.Codec.{codec_of}
use Rattle.sm_codec.specs.Conventions.{json_convention}
use Rattle.sm_codec.specs.Readings.{map_reading, member_reading, when_closed}
use Rattle.sm_part_values.specs.FormView.{form_of}
use Rattle.sm_part_values.specs.Joins.{MemberJoins}
use Rattle.sm_part_values.specs.PartTexts.{keyed_by}
use Rattle.sm_bind_read.proofs.ListsStand.{map_stands, no_map}
use Rattle.sm_bind_read.proofs.PartsPut.{empty_from, some_from}
use Rattle.sm_bind_read.proofs.maps.mapped_value.Goals as goal

pub returns-then-is_empty-clause-joins : goal.returns-then-is_empty-clause-joins
returns-then-is_empty-clause-joins g c =
    let t = table_data c.args.table.now in
    let codec = codec_of t (json_convention true) g.P.Patterns.test in
    let none : c.args.rows.items ≡ [] =
    sym c.as_slice.ensures.value ∙ empty_from c.as_slice.result.now (sym c.is_empty.ensures ∙ c.if-is_empty.true) in
    subst (λ cs. MemberJoins (member_reading (when_closed t) c.args.member cs) c.absent_value.result)
    (sym (no_map (when_closed t) c.args.member codec c.args.lists (form_of c.args.form) c.args.rows.items none)) c.absent_value.ensures

pub returns-clause-joins : goal.returns-clause-joins
returns-clause-joins g c =
    let t = table_data c.args.table.now in
    let codec = codec_of t (json_convention true) g.P.Patterns.test in
    let f = form_of c.args.form in
    let rows = c.args.rows.items in
    subst (λ r. MemberJoins r c.present.result)
    (map_stands (when_closed t) c.args.member codec c.args.lists f rows
    (λ e. some_from c.as_slice.result.now (sym c.is_empty.ensures ∙ c.if-is_empty.false) (c.as_slice.ensures.value ∙ e)))
    (c.present.ensures (map_reading codec (member_place c.args.member) (keyed_by c.args.lists f codec rows)) c.keyed_value.ensures.joins)
