use Rattle.std.proofs.Common.{subst, sym, ◌∙◌}
use Rattle.std.proofs.lemmas.Result.{IfOk-weaker}
use Rattle.sm_tree.specs.View.{members_view}
use Rattle.sm_model.specs.GivenView.{given_view}
use Rattle.sm_model.specs.Graphs.{GraphMaps, graph_of}
use Rattle.sm_model.specs.GraphView.{maps_of}
use Rattle.sm_transform.specs.Changed.{IsMadeOf}
use Rattle.sm_transform.specs.IdChanges.{entry_after, id_after}
use Rattle.sm_transform.specs.steps.Changing.{IsLeft}
use Rattle.sm_transform.proofs.ChangedGraph.{changed_given, changed_made}
use Rattle.sm_transform.proofs.changed_shapes.changed_graph.Goals as goal

pub build-requires : goal.build-requires
build-requires g c =
    changed_given c.args.graph.now c.requires.formed (g.C.ChangesIds.after c.args.change.now) c.requires.safe
    (given_view c.in_ok-shapes.shapes.items) c.in_ok-shapes.ensures (members_view c.in_ok-metadata.metadata.items)
    (c.in_ok-metadata.ensures ∙ sym c.metadata.ensures)

pub returns : goal.returns
returns g c =
    let graph = c.args.graph.now in
    let change = g.C.ChangesIds.after c.args.change.now in
    let ss = given_view c.in_ok-shapes.shapes.items in
    let metadata = members_view c.in_ok-metadata.metadata.items in
    IfOk-weaker c.build.result (λ h. Path GraphMaps (maps_of h) (graph_of ss metadata))
    (λ h. IsMadeOf (IsLeft change) (id_after change) (entry_after change) (maps_of graph) (maps_of h))
    (λ h is. subst (IsMadeOf (IsLeft change) (id_after change) (entry_after change) (maps_of graph)) (sym is)
    (changed_made graph c.requires.formed change c.requires.safe ss c.in_ok-shapes.ensures metadata
    (c.in_ok-metadata.ensures ∙ sym c.metadata.ensures))) c.build.ensures
