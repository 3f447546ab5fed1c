use Rattle.std.proofs.Common.{◌∷◌, true, sym, ap, subst, ◌∙◌}
use Rattle.sm_shapes.specs.TableView.{table_data}
use Rattle.sm_codec.specs.Codec.{InTable, codec_of}
use Rattle.sm_codec.specs.Conventions.{json_convention}
use Rattle.sm_codec.specs.FrameView.{fault_at}
use Rattle.sm_codec.specs.PlaceView.{place_of}
use Rattle.sm_codec.specs.Readings.{key_faults}
use Rattle.sm_codec.proofs.PlacesIn.{value_in}
use Rattle.sm_part_values.specs.FormView.{form_of}
use Rattle.sm_part_values.specs.Joins.{IsFirstOf, JoinsTo}
use Rattle.sm_part_values.specs.steps.Maps.{IsFirstKind, group_reading, is_again}
use Rattle.sm_part_values.proofs.GroupsJoined.{again_faulty, is_alone, key_faulty, pair_joined}
use Rattle.sm_part_values.proofs.maps.group_value.Goals as goal

pub member_value-requires-clause-place : goal.member_value-requires-clause-place
member_value-requires-clause-place g c =
    let t = table_data c.args.table.now in
    subst (InTable t) (sym c.value.ensures) (value_in t (place_of c.args.place) c.requires.shaped c.requires.place c.requires.map)

pub returns-then-is_again-clause-joins : goal.returns-then-is_again-clause-joins
returns-then-is_again-clause-joins g c =
    let t = table_data c.args.table.now in
    let codec = codec_of t (json_convention true) g.P.Patterns.test in
    let group = c.args.group.now in
    again_faulty (form_of c.args.form) codec (place_of c.args.place) group.key c.args.lists group.first group.more.items
    (fault_at c.fault_here.result)
    (ap (is_again c.args.lists) (sym c.as_slice.ensures.value) ∙ sym c.is_again.ensures ∙ c.if-is_again.true) c.fault_here.ensures

pub returns-in-Ok-None-clause-joins : goal.returns-in-Ok-None-clause-joins
returns-in-Ok-None-clause-joins g c =
    let t = table_data c.args.table.now in
    let codec = codec_of t (json_convention true) g.P.Patterns.test in
    let f = form_of c.args.form in
    let p = place_of c.args.place in
    let group = c.args.group.now in
    let off = ap (is_again c.args.lists) (sym c.as_slice.ensures.value) ∙ sym c.is_again.ensures ∙ c.if-is_again.false in
    pair_joined f codec p group.key c.args.lists group.first group.more.items
    (is_alone f codec p group.key c.args.lists group.more.items off)
    (ap (key_faults codec p) (sym c.as_str.ensures.bytes)
    ∙ subst (IsFirstKind (key_faults codec p c.as_str.result.now)) c.in-Ok-None.field-0-is c.in-Ok-None.ensures.first)
    c.member_value.result
    (subst (λ q. JoinsTo (group_reading c.args.lists f codec q (group.first ∷ group.more.items)) c.member_value.result) c.value.ensures
    c.member_value.ensures.joins)

pub returns-in-Ok-Some-clause-joins : goal.returns-in-Ok-Some-clause-joins
returns-in-Ok-Some-clause-joins g c =
    let t = table_data c.args.table.now in
    let codec = codec_of t (json_convention true) g.P.Patterns.test in
    let f = form_of c.args.form in
    let p = place_of c.args.place in
    let group = c.args.group.now in
    let off = ap (is_again c.args.lists) (sym c.as_slice.ensures.value) ∙ sym c.is_again.ensures ∙ c.if-is_again.false in
    key_faulty f codec p group.key c.args.lists group.first group.more.items
    (is_alone f codec p group.key c.args.lists group.more.items off) (fault_at c.fault_here-in-Ok-Some.result)
    (subst (λ w. IsFirstOf (key_faults codec p w) (fault_at c.fault_here-in-Ok-Some.result)) c.as_str.ensures.bytes
    (subst (IsFirstOf (key_faults codec p c.as_str.result.now)) (sym c.fault_here-in-Ok-Some.ensures)
    (subst (IsFirstKind (key_faults codec p c.as_str.result.now)) c.in-Ok-Some.field-0-is c.in-Ok-Some.ensures.first)))
