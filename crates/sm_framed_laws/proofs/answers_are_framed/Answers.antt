use Rattle.sm_http.specs.declared.message.MessageSide.TheVariants.{Response as of_responses}
use Rattle.sm_framed_laws.proofs.AnswersFramed.{answers_framed}
use Rattle.sm_framed_laws.proofs.answers_are_framed.Goals as goal

pub returns : goal.returns
returns c = answers_framed (c.written_is_read.ensures of_responses) c.says_it_closes.ensures.others
