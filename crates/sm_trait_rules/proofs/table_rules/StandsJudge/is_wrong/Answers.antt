use Rattle.std.proofs.Common.{◌∙◌}
use Rattle.sm_tree.specs.View.{node_of}
use Rattle.sm_passes.proofs.RowTested.{place_by_rows}
use Rattle.sm_trait_rules.proofs.table_rules.StandsJudge.is_wrong.Goals as goal

pub returns : goal.returns
returns c =
    c.stands_elsewhere.ensures
    ∙ place_by_rows c.args.name.now c.rows_of.result c.rows_of.ensures c.args.at (node_of c.args._tree.now)
