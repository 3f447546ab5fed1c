use Rattle.sm_asked.proofs.OverFiles.{some_over_files}
use Rattle.sm_model_commands.specs.Check.{CheckSays}
use Rattle.sm_model_commands.specs.Convert.{ConvertSays}
use Rattle.sm_model_commands.specs.Select.{SelectSays}
use Rattle.sm_model_commands.proofs.OneCheck.{check_answered}
use Rattle.sm_model_commands.proofs.SomeConvert.{convert_answered}
use Rattle.sm_model_commands.proofs.OneSelect.{select_answered}
use Rattle.sm_model_commands.proofs.laws.some_answer.Goals as goal

pub returns-clause-check : goal.returns-clause-check
returns-clause-check c = λ models. some_over_files models (λ files a. CheckSays files models a)
    (λ folder. check_answered c.some_load.ensures.files c.some_load.ensures.events folder models)

pub returns-clause-convert : goal.returns-clause-convert
returns-clause-convert c = λ models form. some_over_files models (λ files a. ConvertSays files models form a)
    (λ folder. convert_answered c.some_load.ensures.files folder models form)

pub returns-clause-select : goal.returns-clause-select
returns-clause-select c = λ models selector. some_over_files models (λ files a. SelectSays files models selector a)
    (λ folder. select_answered c.some_load.ensures.files folder models selector)
