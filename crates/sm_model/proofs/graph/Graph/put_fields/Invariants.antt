use Rattle.std.proofs.Common.{drop}
use Rattle.sm_tree.specs.View.{members_view}
use Rattle.sm_model.specs.steps.Linking.{AddsUpTo, FieldsLinks}
use Rattle.sm_model.proofs.graph.Graph.put_fields.Given as goal

abbrev pub invariant-loop-pair : goal.invariant-loop-pair
invariant-loop-pair l =
    AddsUpTo (FieldsLinks l.self l.kind l.shape (members_view l.pairs)) (FieldsLinks l.self l.kind l.shape (members_view
    (drop l.pair-index l.pairs)))
    l.initial.links.items l.links.items
