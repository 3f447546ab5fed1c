use Rattle.std.proofs.Common.{◌≡◌, [], true, sym, subst, ◌∙◌}
use Rattle.sm_shapes.specs.Places.{kind_of, member_place}
use Rattle.sm_shapes.specs.TableView.{table_data}
use Rattle.sm_codec.specs.Codec.{codec_of}
use Rattle.sm_codec.specs.Conventions.{json_convention}
use Rattle.sm_part_values.specs.PartTexts.{raw_by}
use Rattle.sm_bind_read.specs.steps.Bodies.{RawGives}
use Rattle.sm_bind_read.proofs.BodyGives.{raw_gives}
use Rattle.sm_bind_read.proofs.PartsPut.{empty_from, some_from}
use Rattle.sm_bind_read.proofs.bodies.raw_payload.Goals as goal

pub returns-then-is_empty-clause-gives : goal.returns-then-is_empty-clause-gives
returns-then-is_empty-clause-gives g c =
    let none : c.args.bytes ≡ [] =
    sym c.as_slice.ensures ∙ empty_from c.as_slice.result.now (sym c.is_empty.ensures ∙ c.if-is_empty.true) in
    subst (λ bs. RawGives (table_data c.args.table.now) g.P.Patterns.test c.args.members.now c.args.at c.args.member bs c.nothing.result)
    (sym none) c.nothing.ensures

pub returns-clause-gives : goal.returns-clause-gives
returns-clause-gives g c =
    let t = table_data c.args.table.now in
    let codec = codec_of t (json_convention true) g.P.Patterns.test in
    let p = member_place c.args.member in
    raw_gives t g.P.Patterns.test c.args.members.now c.args.at c.args.member c.args.bytes c.payload_read.result
    (λ e. some_from c.as_slice.result.now (sym c.is_empty.ensures ∙ c.if-is_empty.false) (c.as_slice.ensures ∙ e))
    (c.payload_read.ensures (raw_by (kind_of t p) codec p c.args.bytes) c.raw_value-read.ensures.joins)
