use Rattle.sm_value_rules.proofs.ValuesTaken.{none_held}
use Rattle.sm_value_rules.proofs.seen_values.SeenValues.new.Goals as goal

pub returns : goal.returns
returns c = none_held (record { texts = c.new-texts.result; numbers = c.new-numbers.result }) c.new-texts.ensures.empty
    c.new-numbers.ensures.empty
