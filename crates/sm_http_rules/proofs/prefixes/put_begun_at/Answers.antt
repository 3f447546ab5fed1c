use Rattle.sm_http_rules.proofs.WireNamesTold.{header_put, no_header}
use Rattle.sm_http_rules.proofs.prefixes.put_begun_at.Goals as goal

pub returns-in_ok-put_header-in-Some : goal.returns-in_ok-put_header-in-Some
returns-in_ok-put_header-in-Some c =
    header_put c.args.graph.now c.args.prefixes.now c.args.member c.in-Some.header.now c.in-Some.ensures c.args.events.now.items
    c.put_header.new.events.items c.in_ok-put_header-in-Some.ensures

pub returns-in-None : goal.returns-in-None
returns-in-None c = no_header c.args.graph.now c.args.prefixes.now c.args.member c.in-None.ensures c.args.events.now.items
