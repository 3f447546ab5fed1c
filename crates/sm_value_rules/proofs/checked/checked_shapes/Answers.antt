use Rattle.std.proofs.Common.{◌≡◌, List, Bool, length, subst, sym, ap, ◌∙◌, true}
use Rattle.std.proofs.lemmas.Result.{IfOk-weaker}
use Rattle.sm_model.specs.GraphView.{entries_of, maps_of}
use Rattle.sm_model.specs.Reaching.{AreMarks, id_of_number}
use Rattle.sm_select.specs.Neighbors.{AreBelow, AreNeighbors, AreReached}
use Rattle.sm_rules.specs.NodeChecks.{IsChecked}
use Rattle.sm_value_rules.specs.steps.Checking.{AreFaultMarks, AreValueLinks, is_checked_at}
use Rattle.sm_value_rules.proofs.CheckedMarks.{all_checked, links_below, stay_below}
use Rattle.sm_value_rules.proofs.checked.checked_shapes.Goals as goal

pub new-requires : goal.new-requires
new-requires c =
    subst (AreBelow c.count.result) (sym c.as_slice.ensures.value)
    (links_below c.args.graph.now c.count.result c.in_ok-links.links.items c.in_ok-links.ensures c.count.ensures)

pub reached-requires-clause-count : goal.reached-requires-clause-count
reached-requires-clause-count c =
    ap length c.as_slice-2.ensures.value ∙ c.in_ok-faulty.ensures.whole ∙ sym c.count.ensures ∙ sym c.in_ok-back.ensures.whole

pub reached-requires-clause-below : goal.reached-requires-clause-below
reached-requires-clause-below c =
    let links = c.as_slice.result.now in
    let value = subst (AreValueLinks c.args.graph.now) (sym c.as_slice.ensures.value) c.in_ok-links.ensures in
    stay_below c.count.result links c.in_ok-back.back (links_below c.args.graph.now c.count.result links value c.count.ensures)
    c.in_ok-back.ensures

pub returns : goal.returns
returns c =
    let g = c.args.graph.now in
    let links = c.as_slice.result.now in
    let rows = c.in_ok-back.back in
    let faulty = c.as_slice-3.result.now in
    let before = c.as_slice-4.result.now in
    let value = subst (AreValueLinks g) (sym c.as_slice.ensures.value) c.in_ok-links.ensures in
    let near = subst (λ n. AreNeighbors n links true rows) c.count.ensures c.in_ok-back.ensures in
    let are = subst (AreFaultMarks g) (sym c.as_slice-3.ensures.value) c.in_ok-faulty.ensures in
    let same = c.as_slice-2.ensures.value ∙ sym c.as_slice-3.ensures.value in
    let reached = subst (AreReached rows faulty) (sym c.as_slice-4.ensures.value)
    (subst (λ (f : List Bool). AreReached rows f c.in_ok-before.before.items) same c.in_ok-before.ensures.marked) in
    IfOk-weaker c.checked_where.result (λ marks. AreMarks (length (entries_of g)) (λ k. is_checked_at g faulty before k ≡ true) marks.items)
    (λ marks. AreMarks (length (entries_of g)) (λ k. IsChecked (maps_of g) (id_of_number g k)) marks.items)
    (λ marks h. all_checked g faulty are links value rows near before reached marks.items h) c.checked_where.ensures
