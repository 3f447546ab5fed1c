use Rattle.std.proofs.Common.{subst, sym, ◌<◌, refl, ap}
use Rattle.sm_shapes.specs.TableData.{shape_count}
use Rattle.sm_shapes.specs.TableView.{table_data}
use Rattle.sm_shapes.specs.ValueView.{val_of}
use Rattle.sm_codec.specs.Codec.{codec_of}
use Rattle.sm_bodies.specs.Sides.{side_of}
use Rattle.sm_service.specs.ServiceView.{service_data}
use Rattle.sm_messages.specs.Answers.{RefusedAs}
use Rattle.sm_messages.specs.Goals.{goal_of, the_error, the_output}
use Rattle.sm_messages.specs.MessageAnswers.{the_refusal, the_value}
use Rattle.sm_messages.specs.TreeAnswers.{HasAddress, TreeAnswers, address_of, told_under}
use Rattle.sm_messages.proofs.TreeBodies.{goal_structure}
use Rattle.sm_messages.proofs.values.whole_reply.Goals as goal

pub is_unit-unit-requires : goal.is_unit-unit-requires
is_unit-unit-requires g c =
    let s = service_data c.args.service.now in
    subst (λ k. k < shape_count s.table) (sym c.output_shape-shape.ensures)
    (goal_structure s (goal_of c.args.operation the_output) c.requires.servable (c.requires.number, tt)).0

pub whole_value-requires-in-Error-clause-number : goal.whole_value-requires-in-Error-clause-number
whole_value-requires-in-Error-clause-number g c =
    let s = service_data c.args.service.now in
    subst (λ e. e.shape < shape_count s.table) (sym c.error_at.ensures)
    (goal_structure s (goal_of c.args.operation (the_error c.in-Error.place)) c.requires.servable (
      c.requires.number,
      subst (HasAddress s c.args.operation) c.in-Error.is c.requires.address,
    )).0

pub returns-in-Ok-clause-reply : goal.returns-in-Ok-clause-reply
returns-in-Ok-clause-reply g c =
    let s = service_data c.args.service.now in
    let codec = codec_of (table_data c.args.service.now.table) (g.L.Leaves.convention c.args.leaves.now) g.P.Patterns.test in
    subst (λ t. TreeAnswers (side_of c.args.form).syntax codec s (told_under c.args.by_code) (address_of c.args.operation t) c.args.bytes.now
    (the_value (goal_of c.args.operation the_output) (val_of c.in-Ok.value))) (sym c.in-Output.is)
    (c.in-Ok.ensures.value (goal_of c.args.operation the_output) (told_under c.args.by_code) (sym c.output_shape-shape.ensures)
    (sym c.is_unit-unit.ensures))

pub returns-in-Err-clause-reply : goal.returns-in-Err-clause-reply
returns-in-Err-clause-reply g c =
    let s = service_data c.args.service.now in
    let codec = codec_of (table_data c.args.service.now.table) (g.L.Leaves.convention c.args.leaves.now) g.P.Patterns.test in
    subst (λ t. RefusedAs (λ r. TreeAnswers (side_of c.args.form).syntax codec s (told_under c.args.by_code) (address_of c.args.operation t)
    c.args.bytes.now (the_refusal r)) c.in-Err.refusal) (sym c.in-Output.is)
    (c.in-Err.ensures.value (goal_of c.args.operation the_output) (told_under c.args.by_code) (sym c.output_shape-shape.ensures)
    (sym c.is_unit-unit.ensures))

pub returns-in-Ok-whole_value-clause-reply : goal.returns-in-Ok-whole_value-clause-reply
returns-in-Ok-whole_value-clause-reply g c =
    let s = service_data c.args.service.now in
    let codec = codec_of (table_data c.args.service.now.table) (g.L.Leaves.convention c.args.leaves.now) g.P.Patterns.test in
    let at = goal_of c.args.operation (the_error c.in-Error.place) in
    subst (λ t. TreeAnswers (side_of c.args.form).syntax codec s (told_under c.args.by_code) (address_of c.args.operation t) c.args.bytes.now
    (the_value at (val_of c.in-Ok-whole_value.value))) (sym c.in-Error.is)
    (c.in-Ok-whole_value.ensures.value at (told_under c.args.by_code) (ap (λ e. e.shape) (sym c.error_at.ensures)) refl)

pub returns-in-Err-whole_value-clause-reply : goal.returns-in-Err-whole_value-clause-reply
returns-in-Err-whole_value-clause-reply g c =
    let s = service_data c.args.service.now in
    let codec = codec_of (table_data c.args.service.now.table) (g.L.Leaves.convention c.args.leaves.now) g.P.Patterns.test in
    let at = goal_of c.args.operation (the_error c.in-Error.place) in
    subst (λ t. RefusedAs (λ r. TreeAnswers (side_of c.args.form).syntax codec s (told_under c.args.by_code) (address_of c.args.operation t)
    c.args.bytes.now (the_refusal r)) c.in-Err-whole_value.refusal) (sym c.in-Error.is)
    (c.in-Err-whole_value.ensures.value at (told_under c.args.by_code) (ap (λ e. e.shape) (sym c.error_at.ensures)) refl)
