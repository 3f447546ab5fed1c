use Rattle.sm_name_rules.proofs.named.push_named.Goals as goal

pub returns : goal.returns
returns c = (c.in_ok-key.key, (c.name_of.result.now, c.name_of.ensures, c.in_ok-key.ensures), c.in_ok-push.ensures.items)
