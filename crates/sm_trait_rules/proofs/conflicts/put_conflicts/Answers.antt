use Rattle.sm_model.specs.GraphView.{maps_of}
use Rattle.sm_trait_rules.proofs.ConflictsTold.{conflicts_put}
use Rattle.sm_trait_rules.proofs.conflicts.put_conflicts.Goals as goal

pub returns : goal.returns
returns c =
    conflicts_put (maps_of c.args.graph.now) c.args.events.now.items c.put_exclusive.new.events.items c.put_excluded.new.events.items
    c.in_ok-put_exclusive.ensures c.in_ok-put_excluded.ensures
