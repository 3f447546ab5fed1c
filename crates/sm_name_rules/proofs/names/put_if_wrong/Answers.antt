use Rattle.sm_name_rules.proofs.NamesTold.{wrong_put}
use Rattle.sm_name_rules.proofs.names.put_if_wrong.Goals as goal

pub is_wrong_name-wrong-requires : goal.is_wrong_name-wrong-requires
is_wrong_name-wrong-requires c = c.requires.inside.whole

pub returns : goal.returns
returns c =
    wrong_put c.args.graph.now c.args.service c.args.inside.now c.requires.inside c.args.name.now c.is_wrong_name-wrong.result
    c.is_wrong_name-wrong.ensures c.args.events.now.items c.put_if.new.events.items c.in_ok-put_if.ensures
