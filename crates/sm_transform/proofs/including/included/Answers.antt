use Rattle.std.proofs.Common.{length, subst, sym, ◌∙◌}
use Rattle.std.proofs.lemmas.Result.{IfOk-weaker}
use Rattle.sm_tree.specs.View.{members_view}
use Rattle.sm_model.specs.GivenView.{given_view}
use Rattle.sm_model.specs.Graphs.{GraphMaps, graph_of}
use Rattle.sm_model.specs.GraphView.{entries_of, maps_of}
use Rattle.sm_select.specs.Selectors.{steps_of}
use Rattle.sm_select.specs.View.{selector_view}
use Rattle.sm_transform.specs.Changed.{Changed, include}
use Rattle.sm_transform.specs.steps.Copies.{AreCopiesBelow}
use Rattle.sm_transform.proofs.IncludedGraph.{included_given, included_made}
use Rattle.sm_transform.proofs.including.included.Goals as goal

pub build-requires : goal.build-requires
build-requires c =
    let g = c.args.graph.now in
    let steps = steps_of (selector_view c.args.selector.now) in
    let ss = given_view c.in_ok-shapes.shapes.items in
    let n = length (entries_of g) in
    let copies = subst (λ marks. AreCopiesBelow g marks n ss) c.as_slice.ensures.value c.in_ok-shapes.ensures in
    included_given g c.requires steps c.in_ok-marks.marks.items c.in_ok-marks.ensures ss copies
    (members_view c.in_ok-metadata.metadata.items) (c.in_ok-metadata.ensures ∙ sym c.metadata.ensures)

pub returns : goal.returns
returns c =
    let g = c.args.graph.now in
    let steps = steps_of (selector_view c.args.selector.now) in
    let ss = given_view c.in_ok-shapes.shapes.items in
    let metadata = members_view c.in_ok-metadata.metadata.items in
    let n = length (entries_of g) in
    let copies = subst (λ marks. AreCopiesBelow g marks n ss) c.as_slice.ensures.value c.in_ok-shapes.ensures in
    let made : Changed (maps_of g) (include steps) (graph_of ss metadata) =
    included_made g c.requires steps c.in_ok-marks.marks.items c.in_ok-marks.ensures ss copies metadata
    (c.in_ok-metadata.ensures ∙ sym c.metadata.ensures) in
    IfOk-weaker c.build.result (λ h. Path GraphMaps (maps_of h) (graph_of ss metadata)) (λ h. Changed (maps_of g) (include steps)
    (maps_of h))
    (λ h is. subst (Changed (maps_of g) (include steps)) (sym is) made) c.build.ensures
