use Rattle.sm_tree.specs.Node.{nodes_of}
use Rattle.sm_tree.specs.View.{nodes_view}
use Rattle.sm_model.specs.GraphView.{maps_of}
use Rattle.sm_model.specs.Reaching.{id_of_number}
use Rattle.sm_model.specs.Relations.{IsEntryText}
use Rattle.sm_trait_rules.specs.steps.Conflicting.{HasText}
use Rattle.sm_trait_rules.proofs.ConflictsTold.{any_same}
use Rattle.sm_trait_rules.proofs.conflicts.take_shorter.Goals as goal

pub returns-in_ok-take_named : goal.returns-in_ok-take_named
returns-in_ok-take_named c =
    any_same (maps_of c.args.graph.now) (id_of_number c.args.graph.now c.args.number) c.args.name.now
    (HasText c.args.excluded.now.set.texts)
    (λ o. IsEntryText o (nodes_of (nodes_view c.args.excluded.now.entries.now))) c.requires.texts (HasText c.args.told.now.texts)
    (HasText c.take_named.new.told.texts) c.in_ok-take_named.ensures
