use Rattle.std.proofs.Common.{ap, ◌∙◌}
use Rattle.sm_session.specs.OwnAnswers.{back_line}
use Rattle.sm_gateway.proofs.RefusalsSaid.{back_refusal_told}
use Rattle.sm_gateway.proofs.answers.back_refused_answer.Goals as goal

pub returns : goal.returns
returns c =
    back_refusal_told c.args.refusal.now _ _ _ c.in_ok-line.ensures (c.in_ok-told.ensures ∙ ap back_line c.as_slice.ensures.value)
    c.in_ok-answer.ensures
