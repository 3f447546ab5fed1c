use Rattle.sm_trait_rules.proofs.TextsHeld.{text_put}
use Rattle.sm_trait_rules.proofs.text_set.TextSet.put.Goals as goal

pub returns-in-Ok : goal.returns-in-Ok
returns-in-Ok c = text_put c.args.self.now.texts c.insert.new.self c.args.name.now c.in-Ok.ensures.updates
