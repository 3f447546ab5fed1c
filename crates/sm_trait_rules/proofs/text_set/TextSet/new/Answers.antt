use Rattle.sm_trait_rules.proofs.TextsHeld.{none_held}
use Rattle.sm_trait_rules.proofs.text_set.TextSet.new.Goals as goal

pub returns : goal.returns
returns c = none_held c.new-texts.result c.new-texts.ensures.empty
