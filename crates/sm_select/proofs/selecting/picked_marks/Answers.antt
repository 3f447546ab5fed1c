use Rattle.std.proofs.Common.{length, subst}
use Rattle.std.proofs.lemmas.Result.{IfOk-weaker}
use Rattle.sm_model.specs.GraphView.{entries_of, maps_of}
use Rattle.sm_model.specs.Reaching.{AreMarks, id_of_number}
use Rattle.sm_select.specs.Images.{AreImage}
use Rattle.sm_select.specs.Picks.{IsPicked, Picks}
use Rattle.sm_select.specs.Selectors.{steps_of}
use Rattle.sm_select.specs.View.{selector_view, step_views}
use Rattle.sm_select.proofs.PickedIds.{marks_picked}
use Rattle.sm_select.proofs.selecting.picked_marks.Goals as goal

pub returns : goal.returns
returns c =
    let g = c.args.graph.now in
    let steps = steps_of (selector_view c.args.selector.now) in
    IfOk-weaker c.image_of.result
    (λ m. AreImage g c.deref.result.now (Picks (maps_of g) (steps_of (step_views c.as_slice.result.now))) m.items)
    (λ m. AreMarks (length (entries_of g)) (λ k. IsPicked (maps_of g) steps (id_of_number g k)) m.items)
    (λ m h. marks_picked g steps c.in_ok-starts.starts.items m.items c.in_ok-starts.ensures
    (subst (λ xs. AreImage g xs (Picks (maps_of g) steps) m.items) c.deref.ensures.value
    (subst (λ ss. AreImage g c.deref.result.now (Picks (maps_of g) (steps_of ss)) m.items) c.as_slice.ensures h)))
    c.image_of.ensures
