use Rattle.sm_model_commands.specs.asked.AskedLaws.{ComesToOne}
use Rattle.sm_commands.proofs.Commanded.{of_each}
use Rattle.sm_commands.proofs.OneRun.{one_run_answer}
use Rattle.sm_commands.proofs.laws.one_answer.Goals as goal

pub returns-clause-said : goal.returns-clause-said
returns-clause-said c =
    of_each ComesToOne c.one_answer.ensures.check c.one_answer-2.ensures c.one_answer.ensures.convert c.one_answer.ensures.select c.one_answer-3.ensures c.one_answer-4.ensures c.one_answer-5.ensures

pub returns-clause-runs : goal.returns-clause-runs
returns-clause-runs c = one_run_answer
    (of_each ComesToOne c.one_answer.ensures.check c.one_answer-2.ensures c.one_answer.ensures.convert c.one_answer.ensures.select c.one_answer-3.ensures c.one_answer-4.ensures c.one_answer-5.ensures)
