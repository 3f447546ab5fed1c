use Rattle.std.proofs.Common.{◌∙◌, sym, ap}
use Rattle.std.specs.Prelude.{codes}
use Rattle.sm_tree.specs.View.{members_view}
use Rattle.sm_model.specs.GraphView.{maps_of}
use Rattle.sm_load.specs.Suppressions.{nodes_in}
use Rattle.sm_load.proofs.SuppressionsKept.{found_in_map}
use Rattle.sm_load.proofs.suppressing.suppressions.Goals as goal

pub returns-in-Some : goal.returns-in-Some
returns-in-Some c =
    c.listed.ensures
    ∙ ap nodes_in (sym c.in-Some.ensures
    ∙ found_in_map (maps_of c.args.graph.now).metadata (codes "suppressions") (members_view c.metadata.result.now) c.metadata.ensures)

pub returns-in-None : goal.returns-in-None
returns-in-None c =
    ap nodes_in (sym c.in-None.ensures
    ∙ found_in_map (maps_of c.args.graph.now).metadata (codes "suppressions") (members_view c.metadata.result.now) c.metadata.ensures)
