use Rattle.std.proofs.Common.{Err, subst}
use Rattle.sm_select.specs.Answers.{ParsesSelector}
use Rattle.sm_model_commands.specs.SelectLines.{broken_selector_line, other_selector_line}
use Rattle.sm_model_commands.proofs.Selects.{broken_told, other_told}
use Rattle.sm_model_commands.proofs.select.no_selector.Goals as goal

pub returns-in-Syntax : goal.returns-in-Syntax
returns-in-Syntax c = λ text is.
    broken_told text c.in-Syntax.at c.refused.result (subst (λ r. ParsesSelector text (Err r)) c.in-Syntax.is is)
    (c.refused.ensures (broken_selector_line c.in-Syntax.at) c.broken_selector_line.ensures)

pub returns-in-OutOfProfile : goal.returns-in-OutOfProfile
returns-in-OutOfProfile c = λ text is.
    other_told text c.in-OutOfProfile.at c.refused-in-OutOfProfile.result
    (subst (λ r. ParsesSelector text (Err r)) c.in-OutOfProfile.is is)
    (c.refused-in-OutOfProfile.ensures (other_selector_line c.in-OutOfProfile.at) c.other_selector_line.ensures)
