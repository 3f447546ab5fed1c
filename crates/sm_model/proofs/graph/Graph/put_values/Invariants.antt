use Rattle.std.proofs.Common.{drop}
use Rattle.sm_tree.specs.Node.{members_of}
use Rattle.sm_tree.specs.View.{members_view}
use Rattle.sm_model.specs.Relations.{IsValueText}
use Rattle.sm_model.specs.steps.Linking.{AddsUpTo, RunsTo}
use Rattle.sm_model.proofs.graph.Graph.put_values.Given as goal

abbrev pub invariant-loop-pair : goal.invariant-loop-pair
invariant-loop-pair l =
    AddsUpTo (RunsTo l.self l.relation l.from (λ id. IsValueText id (members_of (members_view l.pairs))))
    (RunsTo l.self l.relation l.from (λ id. IsValueText id (members_of (members_view (drop l.pair-index l.pairs)))))
    l.initial.links.items l.links.items
