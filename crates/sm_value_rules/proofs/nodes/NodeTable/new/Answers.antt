use Rattle.sm_value_rules.proofs.NodesTold.{table_made}
use Rattle.sm_value_rules.proofs.nodes.NodeTable.new.Goals as goal

pub returns : goal.returns
returns c =
    table_made c.args.graph.now c.args.roots.now _ _ c.in_ok-tabled.tabled _ _ c.in_ok-tabled.ensures
    c.in_ok-fill_defaults.ensures.filled c.in_ok-fill_defaults.ensures.in_order c.fill_defaults.ensures.added
