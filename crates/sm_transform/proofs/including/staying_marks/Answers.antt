use Rattle.std.proofs.Common.{◌≡◌, ◌⊎◌, ◌<◌, length, true, subst, sym}
use Rattle.std.proofs.lemmas.Result.{IfOk-weaker}
use Rattle.sm_model.specs.GraphView.{entries_of, maps_of}
use Rattle.sm_model.specs.Reaching.{AreMarks, IsMarked, id_of_number}
use Rattle.sm_select.specs.Neighbors.{AreReached}
use Rattle.sm_select.specs.Selectors.{steps_of}
use Rattle.sm_select.specs.View.{selector_view}
use Rattle.sm_transform.specs.Included.{StaysIncluded}
use Rattle.sm_transform.specs.Namespaces.{is_of_api}
use Rattle.sm_transform.proofs.IncludedNumbers.{stays_marked}
use Rattle.sm_transform.proofs.including.staying_marks.Goals as goal

pub reached-requires-clause-below : goal.reached-requires-clause-below
reached-requires-clause-below c = λ a b h.
    subst (λ n. b < n) (sym c.in_ok-rows.ensures.whole) ((c.in_ok-rows.ensures.steps a b).0 h).1

pub returns : goal.returns
returns c =
    let g = c.args.graph.now in
    let steps = steps_of (selector_view c.args.selector.now) in
    let starts = c.in_ok-picked.picked.items in
    let led = c.in_ok-led.led.items in
    let rows = c.in_ok-rows.rows in
    let reached : AreReached rows starts led =
    subst (λ xs. AreReached rows xs led) c.as_slice.ensures.value c.in_ok-led.ensures.marked in
    IfOk-weaker c.with_api.result
    (λ m. AreMarks (length (entries_of g))
    (λ k. (IsMarked c.as_slice-2.result.now k ⊎ IsMarked c.as_slice-3.result.now k) ⊎ (is_of_api (id_of_number g k) ≡ true)) m.items)
    (λ m. AreMarks (length (entries_of g)) (λ k. StaysIncluded (maps_of g) steps (id_of_number g k)) m.items)
    (λ m h. stays_marked g steps rows c.in_ok-rows.ensures starts led c.in_ok-picked.ensures reached m.items
    (subst (λ xs. AreMarks (length (entries_of g))
    (λ k. (IsMarked xs k ⊎ IsMarked led k) ⊎ (is_of_api (id_of_number g k) ≡ true)) m.items) c.as_slice-2.ensures.value
    (subst (λ ys. AreMarks (length (entries_of g))
    (λ k. (IsMarked c.as_slice-2.result.now k ⊎ IsMarked ys k) ⊎ (is_of_api
    (id_of_number g k) ≡ true)) m.items) c.as_slice-3.ensures.value h)))
    c.with_api.ensures
