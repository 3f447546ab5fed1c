use Rattle.std.proofs.Common.{◌≡◌}
use Rattle.sm_tree.specs.Node.{text}
use Rattle.sm_tree.specs.View.{node_of}
use Rattle.sm_model.specs.GraphView.{maps_of}
use Rattle.sm_model.specs.Reaching.{id_of_number}
use Rattle.sm_trait_rules.specs.steps.Conflicting.{HasText}
use Rattle.sm_trait_rules.proofs.ConflictsTold.{any_none, of_text}
use Rattle.sm_trait_rules.proofs.conflicts.take_entry.Goals as goal

pub returns-in_ok-take_both-in-Some : goal.returns-in_ok-take_both-in-Some
returns-in_ok-take_both-in-Some c =
    of_text (maps_of c.args.graph.now) (id_of_number c.args.graph.now c.args.number) c.args.name.now (node_of c.args.entry.now)
    c.in-Some.other.now c.in-Some.ensures.node (HasText c.args.told.now.texts) (HasText c.take_both.new.told.texts)
    c.in_ok-take_both-in-Some.ensures

pub returns-in-None : goal.returns-in-None
returns-in-None c =
    any_none (maps_of c.args.graph.now) (id_of_number c.args.graph.now c.args.number) c.args.name.now
    (λ o. node_of c.args.entry.now ≡ text o) c.in-None.ensures.node (HasText c.args.told.now.texts)
