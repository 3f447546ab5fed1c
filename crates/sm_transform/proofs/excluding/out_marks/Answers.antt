use Rattle.std.proofs.Common.{◌≡◌, ◌⊎◌, ◌<◌, length, false, subst, sym}
use Rattle.std.proofs.lemmas.Result.{IfOk-weaker}
use Rattle.sm_model.specs.GraphView.{entries_of, maps_of}
use Rattle.sm_model.specs.Reaching.{AreMarks, IsMarked, id_of_number}
use Rattle.sm_select.specs.Neighbors.{AreReached}
use Rattle.sm_select.specs.Selectors.{steps_of}
use Rattle.sm_select.specs.View.{selector_view}
use Rattle.sm_transform.specs.Excluded.{IsOut}
use Rattle.sm_transform.specs.Namespaces.{is_of_api}
use Rattle.sm_transform.proofs.OutNumbers.{out_marked}
use Rattle.sm_transform.proofs.excluding.out_marks.Goals as goal

pub reached-requires-clause-below : goal.reached-requires-clause-below
reached-requires-clause-below c = λ a b h.
    subst (λ n. b < n) (sym c.in_ok-rows.ensures.whole) ((c.in_ok-rows.ensures.steps a b).0 h).1

pub returns : goal.returns
returns c =
    let g = c.args.graph.now in
    let steps = steps_of (selector_view c.args.selector.now) in
    let chosen = c.in_ok-picked.picked.items in
    let starts = c.in_ok-starts.starts.items in
    let led = c.in_ok-led.led.items in
    let rows = c.in_ok-rows.rows in
    let own = subst (λ xs. AreMarks (length (entries_of g)) (λ k. IsMarked xs k × (is_of_api (id_of_number g k) ≡ false)) starts)
    c.as_slice.ensures.value c.in_ok-starts.ensures in
    let reached : AreReached rows starts led =
    subst (λ xs. AreReached rows xs led) c.as_slice-2.ensures.value c.in_ok-led.ensures.marked in
    IfOk-weaker c.either_marks.result
    (λ m. AreMarks (length (entries_of g)) (λ k. IsMarked c.as_slice-3.result.now k ⊎ IsMarked c.as_slice-4.result.now k) m.items)
    (λ m. AreMarks (length (entries_of g)) (λ k. IsOut (maps_of g) steps (id_of_number g k)) m.items)
    (λ m h. out_marked g steps rows c.in_ok-rows.ensures chosen starts led c.in_ok-picked.ensures own reached m.items
    (subst (λ xs. AreMarks (length (entries_of g)) (λ k. IsMarked xs k ⊎ IsMarked led k) m.items) c.as_slice-3.ensures.value
    (subst (λ ys. AreMarks (length (entries_of g)) (λ k. IsMarked c.as_slice-3.result.now k ⊎ IsMarked ys k) m.items)
    c.as_slice-4.ensures.value h)))
    c.either_marks.ensures
