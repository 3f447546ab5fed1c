use Rattle.sm_model.specs.GraphView.{maps_of}
use Rattle.sm_model.specs.Reaching.{id_of_number}
use Rattle.sm_http_rules.proofs.LabelsTold.{no_text}
use Rattle.sm_http_rules.proofs.labels.put_of_operation.Goals as goal

pub put_of_text-requires-clause-said : goal.put_of_text-requires-clause-said
put_of_text-requires-clause-said c = c.in-Some.ensures

pub returns-in-None : goal.returns-in-None
returns-in-None c =
    let l = c.args.link.now in
    no_text (maps_of c.args.graph.now) (id_of_number c.args.graph.now l.from) (id_of_number c.args.graph.now l.to) c.in-None.ensures
    c.args.events.now.items
