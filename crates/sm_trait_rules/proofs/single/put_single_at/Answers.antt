use Rattle.std.proofs.Common.{sym, ◌∙◌}
use Rattle.sm_model.specs.GraphView.{maps_of}
use Rattle.sm_model.specs.Reaching.{id_of_number}
use Rattle.sm_trait_rules.proofs.Singles.{no_singles}
use Rattle.sm_trait_rules.proofs.single.put_single_at.Goals as goal

pub returns-else-is_own_structure : goal.returns-else-is_own_structure
returns-else-is_own_structure c =
    no_singles (maps_of c.args.graph.now) (id_of_number c.args.graph.now c.args.number) c.args.events.now.items
    (sym c.is_own_structure.ensures ∙ c.if-is_own_structure.false)
