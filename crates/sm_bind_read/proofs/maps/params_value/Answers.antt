use Rattle.std.proofs.Common.{filter, sym, ap, subst, ◌∙◌}
use Rattle.sm_shapes.specs.Places.{kind_of, member_place}
use Rattle.sm_shapes.specs.TableView.{table_data}
use Rattle.sm_codec.specs.Codec.{InTable}
use Rattle.sm_codec.specs.Readings.{member_reading, when_closed}
use Rattle.sm_codec.proofs.PlacesIn.{value_in}
use Rattle.sm_part_values.specs.Joins.{MemberJoins}
use Rattle.sm_part_values.specs.PartTexts.{in_target, is_list, keyed_by, map_or_none}
use Rattle.sm_bind.specs.BoundView.{bound_of}
use Rattle.sm_bind_read.specs.PartFaults.{bound_codec}
use Rattle.sm_bind_read.specs.Parts.{is_of_map}
use Rattle.sm_bind_read.proofs.maps.params_value.Goals as goal

pub is_list_there-requires-clause-place : goal.is_list_there-requires-clause-place
is_list_there-requires-clause-place g c =
    let t = table_data c.args.place.now.table.now in
    subst (InTable t) (sym c.value.ensures)
    (value_in t (member_place c.args.member) c.requires.shaped c.requires.member c.requires.map)

pub mapped_value-requires-clause-lists : goal.mapped_value-requires-clause-lists
mapped_value-requires-clause-lists g c = λ h.
    ap (kind_of (table_data c.args.place.now.table.now)) (sym c.value.ensures) ∙ c.is_list_there.ensures.list h

pub returns-in-Ok-clause-joins : goal.returns-in-Ok-clause-joins
returns-in-Ok-clause-joins g c =
    let b = bound_of c.args.place.now in
    let t = b.table in
    let codec = bound_codec b g.P.Patterns.test in
    subst (λ z. MemberJoins (member_reading (when_closed t) c.args.member (map_or_none codec (keyed_by z in_target codec
    (filter (is_of_map b) c.args.pairs.now)))) c.mapped_value.result)
    (c.is_list_there.ensures.value ∙ ap (λ p. is_list (kind_of t p)) c.value.ensures)
    (subst (λ rows. MemberJoins (member_reading (when_closed t) c.args.member (map_or_none codec (keyed_by c.is_list_there.result in_target codec
    rows))) c.mapped_value.result) c.in-Ok.ensures c.mapped_value.ensures.joins)
