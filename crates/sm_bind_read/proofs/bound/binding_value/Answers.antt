use Rattle.std.proofs.Common.{map, sym, ap, subst, ◌∙◌}
use Rattle.std.specs.Prelude.{Some}
use Rattle.sm_shapes.specs.TableView.{binding_data}
use Rattle.sm_groups.specs.Groups.{AreGroupsOf, groups_view}
use Rattle.sm_codec.specs.Named.{named}
use Rattle.sm_codec.specs.Readings.{member_reading, when_closed}
use Rattle.sm_part_values.specs.Joins.{MemberJoins}
use Rattle.sm_part_values.specs.PartTexts.{in_target, is_list_at, text_child, texts_by}
use Rattle.sm_shapes.specs.Places.{member_place}
use Rattle.sm_bind.specs.BindingsView.{parts_data}
use Rattle.sm_bind.specs.BoundView.{bound_of}
use Rattle.sm_bind_read.specs.PartFaults.{bound_codec}
use Rattle.sm_bind_read.specs.Parts.{bound_children, status_child}
use Rattle.sm_bind_read.specs.steps.Sources.{text_rows}
use Rattle.sm_bind_read.proofs.PartsFound.{text_named}
use Rattle.sm_bind_read.proofs.bound.binding_value.Goals as goal

pub returns-in-Label-clause-joins : goal.returns-in-Label-clause-joins
returns-in-Label-clause-joins g c = λ content.
    let b = bound_of c.args.place.now in
    let codec = bound_codec b g.P.Patterns.test in
    let labels = (parts_data c.args.parts.now).labels in
    let found = c.group_under-found.ensures labels
    (subst (λ gs. AreGroupsOf labels (groups_view gs)) (sym c.as_slice.ensures.value) c.requires.groups.labels)
    ∙ ap (λ w. named w labels) c.name.ensures in
    subst (λ x. MemberJoins (member_reading (when_closed b.table) c.args.member
    (bound_children (Some (binding_data x)) b codec (parts_data c.args.parts.now) content c.args.member)) c.grouped_value.result)
    (sym c.in-Label.is)
    (subst (λ us. MemberJoins (member_reading (when_closed b.table) c.args.member (map (text_child in_target codec) us)) c.grouped_value.result)
    found c.grouped_value.ensures.joins)

pub returns-in-Query-clause-joins : goal.returns-in-Query-clause-joins
returns-in-Query-clause-joins g c = λ content.
    let b = bound_of c.args.place.now in
    let codec = bound_codec b g.P.Patterns.test in
    let pairs = (parts_data c.args.parts.now).query in
    let found = c.group_under-found-in-Query.ensures (text_rows pairs)
    (subst (λ gs. AreGroupsOf (text_rows pairs) (groups_view gs)) (sym c.as_slice-in-Query.ensures.value) c.requires.groups.query)
    ∙ ap (λ w. named w (text_rows pairs)) c.as_str.ensures.bytes ∙ text_named c.in-Query.name c.as_str.ensures.utf8 pairs in
    subst (λ x. MemberJoins (member_reading (when_closed b.table) c.args.member
    (bound_children (Some (binding_data x)) b codec (parts_data c.args.parts.now) content c.args.member)) c.query_value.result)
    (sym c.in-Query.is)
    (subst (λ us. MemberJoins (member_reading (when_closed b.table) c.args.member
    (texts_by (is_list_at codec (member_place c.args.member)) in_target codec us)) c.query_value.result) found c.query_value.ensures.joins)

pub returns-in-ResponseCode-clause-joins : goal.returns-in-ResponseCode-clause-joins
returns-in-ResponseCode-clause-joins g c = λ content.
    let b = bound_of c.args.place.now in
    let codec = bound_codec b g.P.Patterns.test in
    subst (λ x. MemberJoins (member_reading (when_closed b.table) c.args.member
    (bound_children (Some (binding_data x)) b codec (parts_data c.args.parts.now) content c.args.member)) c.present.result)
    (sym c.in-ResponseCode.is)
    (c.present.ensures ((status_child codec c.args.parts.now.status).reading (member_place c.args.member)) c.status_value.ensures.joins)
