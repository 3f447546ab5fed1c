use Rattle.sm_http_rules.proofs.RoutesTold.{services_told}
use Rattle.sm_http_rules.proofs.routes.put_by_firsts.Goals as goal

pub returns : goal.returns
returns c =
    services_told c.args.graph.now c.args.events.now.items c.put_by_closures.new.events.items c.in_ok-put_by_closures.ensures
