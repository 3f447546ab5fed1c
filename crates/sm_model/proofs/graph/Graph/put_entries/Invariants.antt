use Rattle.std.proofs.Common.{drop}
use Rattle.sm_tree.specs.Node.{nodes_of}
use Rattle.sm_tree.specs.View.{nodes_view}
use Rattle.sm_model.specs.Relations.{IsEntryText}
use Rattle.sm_model.specs.steps.Linking.{AddsUpTo, RunsTo}
use Rattle.sm_model.proofs.graph.Graph.put_entries.Given as goal

abbrev pub invariant-loop-item : goal.invariant-loop-item
invariant-loop-item l =
    AddsUpTo (RunsTo l.self l.relation l.from (λ id. IsEntryText id (nodes_of (nodes_view l.items))))
    (RunsTo l.self l.relation l.from (λ id. IsEntryText id (nodes_of (nodes_view (drop l.item-index l.items)))))
    l.initial.links.items l.links.items
