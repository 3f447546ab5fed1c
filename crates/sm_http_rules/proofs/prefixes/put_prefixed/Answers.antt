use Rattle.sm_http_rules.proofs.WireNamesTold.{prefixed_put}
use Rattle.sm_http_rules.proofs.prefixes.put_prefixed.Goals as goal

pub returns : goal.returns
returns c =
    prefixed_put c.args.graph.now c.args.shape c.requires.own c.members_of.result.now c.members_of.ensures.ids c.args.events.now.items
    c.put_begun.new.events.items c.in_ok-put_begun.ensures
