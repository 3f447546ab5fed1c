use Rattle.std.proofs.Common.{◌≡◌, drop}
use Rattle.sm_tree.specs.View.{nodes_view}
use Rattle.sm_schema.specs.Described.{text_nodes}
use Rattle.sm_schema.specs.steps.Joined.{entries_joined}
use Rattle.sm_schema.proofs.nodes.text_nodes.Given as goal

abbrev pub invariant-loop-text : goal.invariant-loop-text
invariant-loop-text l =
    entries_joined (nodes_view l.entries.entries.items) (text_nodes (drop l.text-index l.texts)) ≡ text_nodes l.texts
