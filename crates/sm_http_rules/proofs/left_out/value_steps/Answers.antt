use Rattle.std.proofs.Common.{◌∙◌}
use Rattle.sm_http_rules.proofs.left_out.value_steps.Goals as goal

pub steps_against-requires-clause-of_values : goal.steps_against-requires-clause-of_values
steps_against-requires-clause-of_values c = c.as_slice.ensures.value ∙ c.in_ok-of_values.ensures
