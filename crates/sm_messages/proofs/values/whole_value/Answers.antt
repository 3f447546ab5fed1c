use Rattle.std.proofs.Common.{ap, subst, sym, ◌∙◌}
use Rattle.std.specs.Prelude.{Err, Ok, cond}
use Rattle.sm_tree.specs.Node.{no_members, object}
use Rattle.sm_shapes.specs.TableView.{table_data}
use Rattle.sm_codec.specs.Codec.{codec_of}
use Rattle.sm_bodies.specs.Bodies.{DecodesAs}
use Rattle.sm_bodies.specs.Sides.{side_of}
use Rattle.sm_service.specs.ServiceView.{service_data}
use Rattle.sm_messages.specs.HeadAnswers.{to_goal}
use Rattle.sm_messages.specs.Heads.{is_empty}
use Rattle.sm_messages.specs.MessageForm.{as_empty_object, as_text}
use Rattle.sm_messages.specs.TreeAnswers.{AnswersGoal, TreeAnswers, TreeComesTo}
use Rattle.sm_messages.proofs.TreeAnswered.{empty_answers, text_refused, text_value, unit_use}
use Rattle.sm_messages.proofs.values.whole_value.Goals as goal

pub returns-then-is_empty_object-clause-value : goal.returns-then-is_empty_object-clause-value
returns-then-is_empty_object-clause-value g c at told shape is =
    let s = service_data c.args.service.now in
    let codec = codec_of (table_data c.args.service.now.table) (g.L.Leaves.convention c.args.leaves.now) g.P.Patterns.test in
    let text = unit_use s at c.args.shape c.args.unit (is_empty c.args.bytes.now) c.is_empty_object.result shape is
    c.is_empty_object.ensures in
    empty_answers (side_of c.args.form).syntax codec s told at c.args.bytes.now c.empty_value.result
    (text ∙ ap (λ b. cond b as_empty_object as_text) c.if-is_empty_object.true)
    (subst (λ k. TreeComesTo codec k (object no_members) c.empty_value.result) (sym shape) c.empty_value.ensures.value)

pub returns-in-Ok-clause-value : goal.returns-in-Ok-clause-value
returns-in-Ok-clause-value g c at told shape is =
    let s = service_data c.args.service.now in
    let codec = codec_of (table_data c.args.service.now.table) (g.L.Leaves.convention c.args.leaves.now) g.P.Patterns.test in
    let text = unit_use s at c.args.shape c.args.unit (is_empty c.args.bytes.now) c.is_empty_object.result shape is
    c.is_empty_object.ensures in
    text_value (side_of c.args.form).syntax codec s told at c.args.bytes.now c.in-Ok.value
    (text ∙ ap (λ b. cond b as_empty_object as_text) c.if-is_empty_object.false)
    (subst (λ k. DecodesAs (side_of c.args.form).syntax codec k c.args.bytes.now (Ok c.in-Ok.value)) (sym shape) c.in-Ok.ensures.value)

pub returns-in-Err-clause-value : goal.returns-in-Err-clause-value
returns-in-Err-clause-value g c at told shape is =
    let s = service_data c.args.service.now in
    let codec = codec_of (table_data c.args.service.now.table) (g.L.Leaves.convention c.args.leaves.now) g.P.Patterns.test in
    let text = unit_use s at c.args.shape c.args.unit (is_empty c.args.bytes.now) c.is_empty_object.result shape is
    c.is_empty_object.ensures in
    subst (λ e. AnswersGoal (TreeAnswers (side_of c.args.form).syntax codec s told (to_goal at) c.args.bytes.now) at (Err e))
    (sym c.body_refused.ensures)
    (text_refused (side_of c.args.form).syntax codec s told at c.args.bytes.now c.in-Err.refusal
    (text ∙ ap (λ b. cond b as_empty_object as_text) c.if-is_empty_object.false)
    (subst (λ k. DecodesAs (side_of c.args.form).syntax codec k c.args.bytes.now (Err c.in-Err.refusal)) (sym shape) c.in-Err.ensures.value))
