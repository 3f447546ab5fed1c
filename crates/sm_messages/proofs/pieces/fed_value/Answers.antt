use Rattle.std.proofs.Common.{sym, subst}
use Rattle.std.specs.Prelude.{Err}
use Rattle.sm_shapes.specs.TableView.{table_data}
use Rattle.sm_codec.specs.Codec.{codec_of}
use Rattle.sm_service.specs.ServiceView.{service_data}
use Rattle.sm_messages.specs.Goals.{goal_shape}
use Rattle.sm_messages.specs.HeadAnswers.{to_goal}
use Rattle.sm_messages.specs.Heads.{is_empty}
use Rattle.sm_messages.specs.TreeAnswers.{AnswersGoal, TreeAnswers}
use Rattle.sm_messages.proofs.TreeAnswered.{held_use, text_refused, text_value}
use Rattle.sm_messages.proofs.pieces.fed_value.Goals as goal

pub returns-in-Ok-clause-value : goal.returns-in-Ok-clause-value
returns-in-Ok-clause-value g c at told bytes full fed =
    let s = service_data c.args.service.now in
    let codec = codec_of (table_data c.args.service.now.table) (g.L.Leaves.convention c.args.leaves.now) g.P.Patterns.test in
    text_value g.S.EventSource.source.syntax codec s told at bytes c.in-Ok.value (held_use s at (is_empty bytes) full)
    (c.in-Ok.ensures.value (goal_shape s at) bytes fed)

pub returns-in-Err-clause-value : goal.returns-in-Err-clause-value
returns-in-Err-clause-value g c at told bytes full fed =
    let s = service_data c.args.service.now in
    let codec = codec_of (table_data c.args.service.now.table) (g.L.Leaves.convention c.args.leaves.now) g.P.Patterns.test in
    subst (λ e. AnswersGoal (TreeAnswers g.S.EventSource.source.syntax codec s told (to_goal at) bytes) at (Err e)) (sym c.body_refused.ensures)
    (text_refused g.S.EventSource.source.syntax codec s told at bytes c.in-Err.refusal (held_use s at (is_empty bytes) full)
    (c.in-Err.ensures.value (goal_shape s at) bytes fed))
