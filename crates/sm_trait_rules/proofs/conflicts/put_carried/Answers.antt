use Rattle.sm_model.specs.GraphView.{maps_of}
use Rattle.sm_model.specs.Reaching.{id_of_number}
use Rattle.sm_trait_rules.proofs.ConflictsTold.{held_put}
use Rattle.sm_passes.proofs.EntriesThere.{entry_there}
use Rattle.sm_trait_rules.proofs.conflicts.put_carried.Goals as goal

pub returns : goal.returns
returns c =
    let g = c.args.graph.now in
    let e = entry_there g c.args.number c.requires.number in
    held_put (maps_of g) (id_of_number g c.args.number) e.0 (e.1, c.requires.own) c.new-told.result.texts c.take_carried.new.told.texts
    c.new-told.ensures c.in_ok-take_carried.ensures c.args.events.now.items c.put_told.new.events.items c.in_ok-put_told.ensures
