use Rattle.sm_model.specs.GraphView.{maps_of}
use Rattle.sm_model.specs.Reaching.{id_of_number}
use Rattle.sm_trait_rules.proofs.Singles.{singles_put}
use Rattle.sm_trait_rules.proofs.single.put_single_of.Goals as goal

pub returns : goal.returns
returns c =
    singles_put (maps_of c.args.graph.now) (id_of_number c.args.graph.now c.args.number) c.args.events.now.items
    c.put_if_twice.new.events.items c.put_if_twice-2.new.events.items c.put_if_twice-3.new.events.items c.put_if_twice-4.new.events.items
    c.put_if_twice-5.new.events.items c.requires.own c.in_ok-put_if_twice.ensures c.in_ok-put_if_twice-2.ensures
    c.in_ok-put_if_twice-3.ensures
    c.in_ok-put_if_twice-4.ensures c.in_ok-put_if_twice-5.ensures
