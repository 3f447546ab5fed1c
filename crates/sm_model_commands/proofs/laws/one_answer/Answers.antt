use Rattle.sm_asked.proofs.OverFiles.{one_over_files}
use Rattle.sm_model_commands.specs.Check.{CheckSays}
use Rattle.sm_model_commands.specs.Convert.{ConvertSays}
use Rattle.sm_model_commands.specs.Select.{SelectSays}
use Rattle.sm_model_commands.proofs.OneCheck.{check_same}
use Rattle.sm_model_commands.proofs.OneConvert.{convert_same}
use Rattle.sm_model_commands.proofs.OneSelect.{select_same}
use Rattle.sm_model_commands.proofs.laws.one_answer.Goals as goal

pub returns-clause-check : goal.returns-clause-check
returns-clause-check c = λ models. one_over_files models (λ files a. CheckSays files models a) (λ folder. check_same folder models)

pub returns-clause-convert : goal.returns-clause-convert
returns-clause-convert c = λ models form.
    one_over_files models (λ files a. ConvertSays files models form a) (λ folder. convert_same folder models form)

pub returns-clause-select : goal.returns-clause-select
returns-clause-select c = λ models selector.
    one_over_files models (λ files a. SelectSays files models selector a) (λ folder. select_same folder models selector)
