use Rattle.std.proofs.Common.{subst, sym}
use Rattle.std.proofs.lemmas.Result.{IfOk-weaker}
use Rattle.sm_model.specs.GraphView.{ids, maps_of}
use Rattle.sm_select.specs.Selectors.{steps_of}
use Rattle.sm_select.specs.View.{selector_view}
use Rattle.sm_transform.specs.Changed.{Changed, IsMadeOf, exclude, unless}
use Rattle.sm_transform.specs.Excluded.{IsOut}
use Rattle.sm_transform.specs.IdChanges.{entry_after, id_after}
use Rattle.sm_transform.specs.steps.Changing.{IsLeft, IsSafeFor}
use Rattle.sm_transform.specs.steps.Steps.{is_marked_id}
use Rattle.sm_transform.proofs.ExcludedGraph.{excluded_made, out_safe}
use Rattle.sm_transform.proofs.OutNumbers.{marks_told, out_in}
use Rattle.sm_transform.proofs.excluding.excluded.Goals as goal

pub without-requires-clause-safe : goal.without-requires-clause-safe
without-requires-clause-safe c =
    let g = c.args.graph.now in
    let steps = steps_of (selector_view c.args.selector.now) in
    let out = c.in_ok-out.out.items in
    subst (λ xs. IsSafeFor (maps_of g) (unless (is_marked_id (ids g) xs))) (sym c.as_slice.ensures.value)
    (out_safe g c.requires steps (is_marked_id (ids g) out)
    (marks_told g out (IsOut (maps_of g) steps) (out_in g steps) c.in_ok-out.ensures))

pub returns : goal.returns
returns c =
    let g = c.args.graph.now in
    let steps = steps_of (selector_view c.args.selector.now) in
    let out = c.in_ok-out.out.items in
    let told = marks_told g out (IsOut (maps_of g) steps) (out_in g steps) c.in_ok-out.ensures in
    let change = unless (is_marked_id (ids g) c.as_slice.result.now) in
    IfOk-weaker c.without.result
    (λ h. IsMadeOf (IsLeft change) (id_after change) (entry_after change) (maps_of g) (maps_of h))
    (λ h. Changed (maps_of g) (exclude steps) (maps_of h))
    (λ h made. excluded_made g c.requires steps (is_marked_id (ids g) out) told (maps_of h)
    (subst (λ xs. IsMadeOf (IsLeft (unless (is_marked_id (ids g) xs))) (id_after (unless (is_marked_id (ids g) xs)))
    (entry_after (unless (is_marked_id (ids g) xs))) (maps_of g) (maps_of h)) c.as_slice.ensures.value made))
    c.without.ensures
