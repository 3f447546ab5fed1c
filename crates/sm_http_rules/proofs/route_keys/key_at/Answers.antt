use Rattle.sm_model.specs.GraphView.{maps_of}
use Rattle.sm_model.specs.Reaching.{id_of_number}
use Rattle.sm_http_rules.proofs.RouteKeys.{no_text_key}
use Rattle.sm_http_rules.proofs.route_keys.key_at.Goals as goal

pub key_of_text-requires-clause-said : goal.key_of_text-requires-clause-said
key_of_text-requires-clause-said c = c.in-Some.ensures

pub returns-in-None : goal.returns-in-None
returns-in-None c = no_text_key (maps_of c.args.graph.now) (id_of_number c.args.graph.now c.args.number) c.in-None.ensures
