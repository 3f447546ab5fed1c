use Rattle.std.proofs.Common.{sym, subst}
use Rattle.sm_tree.specs.View.{node_of}
use Rattle.sm_shapes.specs.TableView.{table_data}
use Rattle.sm_codec.specs.Codec.{codec_of}
use Rattle.sm_bodies.specs.Sides.{side_of}
use Rattle.sm_service.specs.ServiceView.{service_data}
use Rattle.sm_messages.specs.Answers.{RefusedAs}
use Rattle.sm_messages.specs.HeadAnswers.{to_named_error}
use Rattle.sm_messages.specs.MessageAnswers.{the_refusal}
use Rattle.sm_messages.specs.TreeAnswers.{TreeAnswers, told_under}
use Rattle.sm_messages.proofs.TreeAnswered.{named_answers, tree_refused}
use Rattle.sm_messages.proofs.values.named_reply.Goals as goal

pub returns-in-Ok-clause-reply : goal.returns-in-Ok-clause-reply
returns-in-Ok-clause-reply g c =
    named_answers (side_of c.args.form).syntax
    (codec_of (table_data c.args.service.now.table) (g.L.Leaves.convention c.args.leaves.now) g.P.Patterns.test)
    (service_data c.args.service.now) (told_under c.args.by_code) c.args.operation c.args.bytes.now (node_of c.in-Ok.tree)
    c.tree_reply.result c.in-Ok.ensures c.tree_reply.ensures.reply

pub returns-in-Err-clause-reply : goal.returns-in-Err-clause-reply
returns-in-Err-clause-reply g c =
    let s = service_data c.args.service.now in
    let codec = codec_of (table_data c.args.service.now.table) (g.L.Leaves.convention c.args.leaves.now) g.P.Patterns.test in
    subst (RefusedAs (λ r. TreeAnswers (side_of c.args.form).syntax codec s (told_under c.args.by_code) (to_named_error c.args.operation)
    c.args.bytes.now (the_refusal r))) (sym c.syntax_refused.ensures)
    (tree_refused (side_of c.args.form).syntax codec s (told_under c.args.by_code) c.args.operation c.args.bytes.now c.in-Err.refusal
    c.in-Err.ensures)
