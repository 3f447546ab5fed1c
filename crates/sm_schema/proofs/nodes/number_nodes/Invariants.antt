use Rattle.std.proofs.Common.{◌≡◌, drop}
use Rattle.sm_tree.specs.View.{nodes_view}
use Rattle.sm_schema.specs.Described.{number_nodes}
use Rattle.sm_schema.specs.steps.Joined.{entries_joined}
use Rattle.sm_schema.proofs.nodes.number_nodes.Given as goal

abbrev pub invariant-loop-number : goal.invariant-loop-number
invariant-loop-number l =
    entries_joined (nodes_view l.entries.entries.items) (number_nodes (drop l.number-index l.numbers)) ≡ number_nodes l.numbers
