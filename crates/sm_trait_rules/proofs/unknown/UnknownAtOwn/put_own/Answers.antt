use Rattle.sm_trait_rules.proofs.UnknownTraits.{unknown_put}
use Rattle.sm_trait_rules.proofs.unknown.UnknownAtOwn.put_own.Goals as goal

pub returns : goal.returns
returns c =
    unknown_put c.args.graph.now c.args.number c.traits.result.now c.traits.ensures
    c.requires.own
    c.args.events.now.items c.put_each_unknown.new.events.items c.in_ok-put_each_unknown.ensures
