use Rattle.sm_model.specs.GraphView.{maps_of}
use Rattle.sm_model.specs.Reaching.{id_of_number}
use Rattle.sm_trait_rules.proofs.JudgedTraits.{judged_put, none_of_member}
use Rattle.sm_trait_rules.proofs.judged.JudgedAtOwn.put_own.Goals as goal

pub returns-in_ok-put_shape-in-Some : goal.returns-in_ok-put_shape-in-Some
returns-in_ok-put_shape-in-Some g c =
    judged_put (g.J.Judge.rule c.args.self.now.judge.now) (g.J.Judge.wrong c.args.self.now.judge.now) (maps_of c.args.graph.now)
    (id_of_number c.args.graph.now c.args.number) c.in-Some.kind c.in-Some.ensures
    c.requires.own c.args.events.now.items
    c.put_shape.new.events.items c.in_ok-put_shape-in-Some.ensures

pub returns-in-None : goal.returns-in-None
returns-in-None g c =
    none_of_member (g.J.Judge.rule c.args.self.now.judge.now) (g.J.Judge.wrong c.args.self.now.judge.now) (maps_of c.args.graph.now)
    (id_of_number c.args.graph.now c.args.number) c.in-None.ensures c.args.events.now.items
