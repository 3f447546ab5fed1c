use Rattle.sm_model_commands.specs.asked.AskedLaws.{ComesToSome}
use Rattle.sm_commands.proofs.Commanded.{of_each}
use Rattle.sm_commands.proofs.laws.some_answer.Goals as goal

pub returns : goal.returns
returns c =
    of_each ComesToSome c.some_answer.ensures.check c.some_answer-2.ensures c.some_answer.ensures.convert c.some_answer.ensures.select c.some_answer-3.ensures c.some_answer-4.ensures c.some_answer-5.ensures
