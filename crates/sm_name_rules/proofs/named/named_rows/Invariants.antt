use Rattle.std.proofs.Common.{◌≤◌, length}
use Rattle.sm_model.specs.GraphView.{entries_of}
use Rattle.sm_name_rules.specs.steps.Naming.{AreRowsBelow, IsKeyBy, is_named, tree_in}
use Rattle.sm_name_rules.proofs.named.named_rows.Given as goal

abbrev pub invariant-loop-number : goal.invariant-loop-number
invariant-loop-number l = record {
  within : l.number ≤ length (entries_of l.graph);
  rows : AreRowsBelow (is_named l.graph l.inside) (IsKeyBy (tree_in l.given) l.graph) l.number l.rows.items;
}
