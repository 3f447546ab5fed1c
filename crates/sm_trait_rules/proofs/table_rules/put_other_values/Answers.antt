use Rattle.sm_trait_rules.proofs.TableTold.{values_put}
use Rattle.sm_trait_rules.proofs.table_rules.put_other_values.Goals as goal

pub returns : goal.returns
returns c = values_put c.args.graph.now c.args.events.now.items c.put_outside.new.events.items c.in_ok-put_outside.ensures
