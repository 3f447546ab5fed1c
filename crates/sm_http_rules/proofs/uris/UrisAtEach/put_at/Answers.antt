use Rattle.sm_model.specs.GraphView.{maps_of}
use Rattle.sm_model.specs.Reaching.{id_of_number}
use Rattle.sm_http_rules.proofs.HttpUris.{no_uri, uri_put}
use Rattle.sm_http_rules.proofs.uris.UrisAtEach.put_at.Goals as goal

pub returns-in_ok-put_no_uri-in-Some : goal.returns-in_ok-put_no_uri-in-Some
returns-in_ok-put_no_uri-in-Some c =
    uri_put (maps_of c.args.graph.now) (id_of_number c.args.graph.now c.args.number) c.in-Some.text.now c.in-Some.ensures
    c.args.events.now.items c.put_no_uri.new.events.items c.in_ok-put_no_uri-in-Some.ensures

pub returns-in-None : goal.returns-in-None
returns-in-None c =
    no_uri (maps_of c.args.graph.now) (id_of_number c.args.graph.now c.args.number) c.in-None.ensures c.args.events.now.items
