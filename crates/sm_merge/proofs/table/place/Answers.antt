use Rattle.std.proofs.Common.{◌∷◌, sym, subst}
use Rattle.sm_tree.specs.View.{pairs_view}
use Rattle.sm_model.specs.Given.{AreNodes}
use Rattle.sm_merge.specs.steps.Tables.{pairs_views}
use Rattle.sm_merge.proofs.TablesMade.{all_nodes}
use Rattle.sm_merge.proofs.table.place.Goals as goal

pub named_values-requires : goal.named_values-requires
named_values-requires c = subst AreNodes (sym c.in_ok-all.ensures)
    (all_nodes (pairs_view c.args.group.first ∷ pairs_views c.args.group.more.items) c.requires)
