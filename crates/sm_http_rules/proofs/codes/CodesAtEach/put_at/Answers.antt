use Rattle.sm_model.specs.GraphView.{maps_of}
use Rattle.sm_model.specs.Reaching.{id_of_number}
use Rattle.sm_http_rules.proofs.HttpCodes.{codes_put}
use Rattle.sm_http_rules.proofs.codes.CodesAtEach.put_at.Goals as goal

pub returns : goal.returns
returns c =
    codes_put (maps_of c.args.graph.now) (id_of_number c.args.graph.now c.args.number) c.args.events.now.items c.put_code.new.events.items
    c.put_status.new.events.items c.in_ok-put_code.ensures c.in_ok-put_status.ensures
